-- The data path on whole bytes is the machine's rule bit by bit: rotate, Set/Reset, and the bytes of four planes by the write mode.
use Prim.Native.Nat.{ℕ, zero, suc, ◌+◌, ◌-◌, ◌*◌, ◌/◌, ◌%◌, ◌^◌, ◌<◌, min}
use native.Mathlib.Omega.{arith}
use mathlib.Core.Path.{◌≡◌, refl, ap, ap₂, ◌∙◌}
use mathlib.Core.Bool.{Bool, true, false}
use mathlib.Core.List.{List, [], ◌∷◌}
use lib.Dec.{lit<}
use lib.Bits.{bit_and, bit_or}
use Rattle.bits.specs.Bit.{bit, of_bits, byte_of, is_one, pick}
use Rattle.bits.proofs.Laws.{bit-lt, bit-of, of-ext}
use Rattle.bits.proofs.Bitwise.{bit-and, bit-spread}
use Rattle.bits.proofs.Decide.{agree1, agree2}
use Rattle.machine_types.specs.declared.gc.GraphicsRegisters.{GraphicsRegisters}
use Rattle.machine_types.specs.declared.gc.LogicFunction.{LogicFunction}
use Rattle.machine_types.specs.declared.gc.WriteMode.{WriteMode}
use Rattle.machine_types.specs.declared.gc.WriteMode.TheVariants.{Mode0, Mode1, Mode2, Mode3}
use Rattle.machine.specs.Graphics.{rotate_count, logic_function}
use Rattle.machine.specs.DataPath.{rotated, data_bit, masked, mask_bit, written_bit}
use Rattle.machine.specs.Deeds.{latch}
use Rattle.graphics_bytes.specs.PlaneBytes.{plane_bytes, four}

-- two shifts and an or turn eight bits: all 2,048 cases are tried
pub turned : (x n : ℕ) → x < 256 → n < 8 → bit_or (x / 2 ^ n) (x * 2 ^ ((8 - n) % 8) % 256) ≡ byte_of (rotated n x)
unfolding bit of_bits
turned = agree2 256 8 (λ x n. bit_or (x / 2 ^ n) (x * 2 ^ ((8 - n) % 8) % 256)) (λ x n. byte_of (rotated n x)) tt

-- by the registers' count
pub turned_by : (r : GraphicsRegisters) (x n t : ℕ) → t ≡ byte_of (rotated n x) → n ≡ rotate_count r → t ≡ byte_of (rotated (rotate_count r) x)
turned_by r x n t e f = e ∙ ap (λ (n : ℕ). byte_of (rotated n x)) f

-- bit i of the data: a plane whose Enable bit is set has its Set/Reset bit, spread
data-bit : (b : Bool) (s x : ℕ) → s < 2 → (i : ℕ) → i < 8 → bit i (pick b (byte_of (λ k. s)) x) ≡ pick b s (bit i x)
data-bit true s x l i h = bit-spread i s h l
data-bit false s x l i h = refl

-- .. and so has a plane that takes its bit of a byte
spread-bit : (p x i : ℕ) → i < 8 → bit i (byte_of (λ k. bit p x)) ≡ bit p x
spread-bit p x i h = bit-spread i (bit p x) h (bit-lt p x)

-- 00 has no bit
no-bit : (i : ℕ) → i < 8 → bit i 0 ≡ 0
unfolding bit
no-bit = agree1 8 (λ i. bit i 0) (λ i. 0) tt

-- ---- one number for each plane

pub four-alike : {a b c d a' b' c' d' : ℕ} → a ≡ a' → b ≡ b' → c ≡ c' → d ≡ d' → (a ∷ b ∷ c ∷ d ∷ []) ≡ (a' ∷ b' ∷ c' ∷ d' ∷ [])
four-alike e f g h = cc

pub four-ext : {f g : ℕ → ℕ} → ((p : ℕ) → p < 4 → f p ≡ g p) → four f ≡ four g
four-ext h = four-alike (h 0 (lit< tt)) (h 1 (lit< tt)) (h 2 (lit< tt)) (h 3 (lit< tt))

pub latch-four : (f : ℕ → ℕ) (p : ℕ) → p < 4 → latch (four f) p ≡ f p
latch-four f zero h = refl
latch-four f (suc zero) h = refl
latch-four f (suc (suc zero)) h = refl
latch-four f (suc (suc (suc zero))) h = refl
latch-four f (suc (suc (suc (suc p)))) h = absurd (omega arith)

-- ---- the planes' bytes, by the write mode, from the function, the mask and the data that the code has

-- bit i of the byte as it was rotated
turned_bit : (r : GraphicsRegisters) (x t : ℕ) → t ≡ byte_of (rotated (rotate_count r) x) → (i : ℕ) → i < 8 → bit i t ≡ rotated (rotate_count r) x i
turned_bit r x t e i h = ap (bit i) e ∙ bit-of 8 (rotated (rotate_count r) x) (λ k. bit-lt ((k + rotate_count r) % 8) x) i h

module _ (r : GraphicsRegisters) (x : ℕ) (l : List ℕ) (f : LogicFunction) where
  -- the logic step of each plane under a mask
  abbrev steps : ℕ → List ℕ → List ℕ
  steps m d = four (λ p. byte_of (λ i. masked f (bit i m) (bit i (latch d p)) (bit i (latch l p))))

  -- mode 1: no bit of the mask
  pub mode-1-are : steps 0 l ≡ four (plane_bytes Mode1 r x l)
  unfolding plane_bytes written_bit masked
  mode-1-are = four-ext (λ p q. of-ext 8 (λ i h. ap (λ (m : ℕ). masked f m (bit i (latch l p)) (bit i (latch l p))) (no-bit i h)))

  module _ (ef : f ≡ logic_function r) where
    -- a mask and data that are told bit by bit, as the mode writes them
    steps-are : (w : WriteMode) (m : ℕ) (c : ℕ → ℕ) → ((i : ℕ) → i < 8 → bit i m ≡ c i) → (d : List ℕ) (g : ℕ → ℕ) → d ≡ four g → (e : ℕ → ℕ → ℕ) → ((p i : ℕ) → i < 8 → bit i (g p) ≡ e p i)
        → ((p i b : ℕ) → masked (logic_function r) (c i) (e p i) b ≡ written_bit w r x p i b) → steps m d ≡ four (plane_bytes w r x l)
    unfolding plane_bytes
    steps-are w m c hm d g ed e hg hw = rw (ef, ed) (four-ext (λ p q. of-ext 8 (λ i h.
        ap₂ (λ (a b : ℕ). masked (logic_function r) a b (bit i (latch l p))) (hm i h) (ap (bit i) (latch-four g p q) ∙ hg p i h) ∙ hw p i (bit i (latch l p)))))

    -- mode 0: the rotated byte, or the plane's Set/Reset bit where its Enable bit is set
    pub mode-0-are : (t : ℕ) → t ≡ byte_of (rotated (rotate_count r) x) → (d : List ℕ)
        → d ≡ four (λ p. pick (is_one (bit p r.enable_set_reset)) (byte_of (λ i. bit p r.set_reset)) t) → steps r.bitmask d ≡ four (plane_bytes Mode0 r x l)
    unfolding written_bit data_bit
    mode-0-are t et d ed = steps-are Mode0 r.bitmask (λ i. bit i r.bitmask) (λ i h. refl) d _ ed (data_bit r x)
        (λ p i h. data-bit (is_one (bit p r.enable_set_reset)) (bit p r.set_reset) t (bit-lt p r.set_reset) i h
        ∙ ap (pick (is_one (bit p r.enable_set_reset)) (bit p r.set_reset)) (turned_bit r x t et i h)) (λ p i b. refl)

    -- mode 2: the byte's bits
    pub mode-2-are : (d : List ℕ) → d ≡ four (λ p. byte_of (λ i. bit p x)) → steps r.bitmask d ≡ four (plane_bytes Mode2 r x l)
    unfolding written_bit
    mode-2-are d ed = steps-are Mode2 r.bitmask (λ i. bit i r.bitmask) (λ i h. refl) d _ ed (λ p i. bit p x) (λ p i h. spread-bit p x i h) (λ p i b. refl)

    -- mode 3: Set/Reset's bits, and the rotated byte is a mask beside Bit Mask
    pub mode-3-are : (t : ℕ) → t ≡ byte_of (rotated (rotate_count r) x) → (d : List ℕ) → d ≡ four (λ p. byte_of (λ i. bit p r.set_reset))
        → steps (bit_and t r.bitmask) d ≡ four (plane_bytes Mode3 r x l)
    unfolding written_bit mask_bit
    mode-3-are t et d ed = steps-are Mode3 (bit_and t r.bitmask) (mask_bit r x) (λ i h. bit-and i t r.bitmask ∙ ap (λ (b : ℕ). min b (bit i r.bitmask)) (turned_bit r x t et i h))
        d _ ed (λ p i. bit p r.set_reset) (λ p i h. spread-bit p r.set_reset i h) (λ p i b. refl)
