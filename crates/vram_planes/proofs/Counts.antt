-- How much a store into one plane changed: the number of the byte that was put down, and four numbers of which the others are 0.
use Prim.Native.Nat.{ℕ, ◌<◌}
use mathlib.Core.Path.{◌≡◌, refl, sym, ap, ◌∙◌}
use mathlib.Core.Bool.{Bool, true, false}
use mathlib.Core.List.{List}
use lib.Dec.{eqb, lit<}
use lib.ListN.{length, get_or, set}
use lib.Seq.{get_or-set_same}
use borrow.Author.Tests.{eqb-true}
use Rattle.bits.specs.Bit.{pick}
use Rattle.machine.specs.Memory.{Memory, Shaped}
use Rattle.machine.specs.Answers.{Value, changes_of}
use Rattle.machine.specs.Deeds.{byte, laid, remade, changed_bits, changed_at}
use Rattle.machine.proofs.Changes.{remade-changed, laid-changed}

-- what was put down is what is found there
pub put_down : (l : List ℕ) (o new n : ℕ) → o < length l → n ≡ changed_bits (get_or l o 0) new → n ≡ changed_bits (get_or l o 0) (get_or (set l o new) o 0)
put_down l o new n h e = e ∙ ap (changed_bits (get_or l o 0)) (sym (get_or-set_same l o new 0 h))

module _ (o p : ℕ) (b : ℕ → ℕ) (m m' : Memory) (h : Shaped m) (l : o < length m.p0) (e : m' ≡ laid o (λ q. eqb q p) b m) (n : ℕ) (en : n ≡ changed_at m m' o p) where
  at : (q : ℕ) → q < 4 → pick (eqb q p) n 0 ≡ changed_at m (remade o m') o q
  at q s = go (eqb q p) refl
    where
      go : (t : Bool) → eqb q p ≡ t → pick t n 0 ≡ changed_at m (remade o m') o q
      go true eq = en ∙ ap (changed_at m m' o) (sym (eqb-true q p eq)) ∙ sym (remade-changed m o o q m')
      go false eq =
          sym (remade-changed m o o q m' ∙ ap (λ (k : Memory). changed_at m k o q) e ∙ laid-changed o (λ q. eqb q p) b m h l q s
          ∙ ap (λ (t : Bool). pick t (changed_bits (byte m q o) (b q)) 0) eq)

  -- the stored plane's number, and 0 of the others
  one-plane : changes_of (λ q. pick (eqb q p) n 0) ≡ changes_of (changed_at m (remade o m') o)
  one-plane = rw (at 0 (lit< tt), at 1 (lit< tt), at 2 (lit< tt), at 3 (lit< tt))

  -- the pixels remade: what is left, and the four numbers of it
  pub one_stored : (m'' : Memory) (v : Value) → m'' ≡ remade o m' → v ≡ changes_of (λ q. pick (eqb q p) n 0)
      → (m'' ≡ remade o (laid o (λ q. eqb q p) b m)) × (v ≡ changes_of (changed_at m m'' o))
  one_stored m'' v left ev = (left ∙ ap (remade o) e, ev ∙ one-plane ∙ ap (λ (k : Memory). changes_of (changed_at m k o)) (sym left))
