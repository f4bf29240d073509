-- Rules of small numbers decided by trying every case: `agree2 f g tt` computes both at all of them.
use Prim.Native.Nat.{ℕ, zero, suc, ◌<◌}
use native.Mathlib.Decide.{ℕ_discrete}
use native.Mathlib.Omega.{arith}
use mathlib.Core.Path.{◌≡◌}
use mathlib.Core.Bool.{Bool, true, false}
use lib.Dec.{T, eqb, eqb→eq}
use Rattle.bits.specs.Bit.{pick, every}

both : (a b : Bool) → T (pick a b false) → T a × T b
both true b t = (tt, t)
both false b t = absurd t

-- a test that holds at each number below n holds at any of them
pub every-at : (n : ℕ) (f : ℕ → Bool) → T (every n f) → (k : ℕ) → k < n → T (f k)
every-at zero f t k h = absurd (omega arith)
every-at (suc n) f t k h = go (ℕ_discrete k n) (every-at n f (both (f n) (every n f) t).1 k)
  where
    go : Dec (k ≡ n) → (k < n → T (f k)) → T (f k)
    go (yes e) below = rw e (both (f n) (every n f) t).0
    go (no d) below = below (omega (arith, d))

pub agree1 : (n : ℕ) (f g : ℕ → ℕ) → T (every n (λ a. eqb (f a) (g a))) → (a : ℕ) → a < n → f a ≡ g a
agree1 n f g t a h = eqb→eq (f a) (g a) (every-at n (λ a. eqb (f a) (g a)) t a h)

pub agree2 : (n m : ℕ) (f g : ℕ → ℕ → ℕ) → T (every n (λ a. every m (λ b. eqb (f a b) (g a b)))) → (a b : ℕ) → a < n → b < m → f a b ≡ g a b
agree2 n m f g t a b ha hb = agree1 m (f a) (g a) (every-at n (λ a. every m (λ b. eqb (f a b) (g a b))) t a ha) b hb

pub agree3 : (n m k : ℕ) (f g : ℕ → ℕ → ℕ → ℕ) → T (every n (λ a. every m (λ b. every k (λ c. eqb (f a b c) (g a b c))))) → (a b c : ℕ) → a < n → b < m → c < k → f a b c ≡ g a b c
agree3 n m k f g t a b c ha = agree2 m k (f a) (g a) (every-at n (λ a. every m (λ b. every k (λ c. eqb (f a b c) (g a b c)))) t a ha) b c

-- three bits
pub same3 : (f g : ℕ → ℕ → ℕ → ℕ) → T (every 2 (λ a. every 2 (λ b. every 2 (λ c. eqb (f a b c) (g a b c))))) → (a b c : ℕ) → a < 2 → b < 2 → c < 2 → f a b c ≡ g a b c
same3 = agree3 2 2 2
