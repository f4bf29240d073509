-- From an address to an offset: what the tests of its window, of Miscellaneous and of where it leads say.
use Prim.Native.Nat.{ℕ, zero, suc, ◌+◌, ◌-◌, ◌*◌, ◌/◌, ◌%◌, ◌≤◌, ◌<◌}
use native.Mathlib.Omega.{arith}
use mathlib.Core.Path.{◌≡◌, refl, ap, ◌∙◌}
use mathlib.Core.Bool.{Bool, true, false, not, ◌&&◌}
use lib.Bits.{bit_and, bit_or, and_high, and_le_r, and_mask, or_shifted}
use Rattle.bits.proofs.Bitwise.{shr_and_one}
use Rattle.std.specs.Prelude.{Some, None}
use lib.Dec.{eqb, leb}
use mir.Val.{bool_byte}
use borrow.Author.Tests.{le-leb, lt-leb, eq-eqb, ne_eqb}
use Rattle.bits.specs.Bit.{bit, field, is_one, bit_of, pick}
use Rattle.machine_types.specs.declared.gc.MemoryMap.{MemoryMap}
use Rattle.machine_types.specs.declared.gc.MemoryMap.TheVariants.{A0000_128k, A0000_64K, B0000_32K, B8000_32K}
use Rattle.machine.specs.Address.{in_window, with_bit0, mapped}
use Rattle.machine.specs.Answers.{Value, Said, Outcome, outcome, answered}
use Rattle.refusals_access.specs.Miscellaneous.{map_of, chain_of, leads_to}

-- ---- the tests of a window

module _ (first last x : ℕ) where
  pub below : x < first → (leb first x && leb x last) ≡ false
  below l = simp (lt-leb first x l)

  pub above : last < x → (leb first x && leb x last) ≡ false
  above l = rw (lt-leb x last l) (go (leb first x))
    where
      go : (t : Bool) → (t && false) ≡ false
      go true = refl
      go false = refl

  pub between : first ≤ x → x ≤ last → (leb first x && leb x last) ≡ true
  between l m = simp (le-leb first x l, le-leb x last m)

-- ---- where an address leads

module _ (map : MemoryMap) (chain : Bool) (x : ℕ) (page : Bool) where
  pub outside : in_window map x ≡ false → None ≡ leads_to map chain x page
  unfolding leads_to
  outside e = simp e

  pub inside : {o : ℕ} → in_window map x ≡ true → o ≡ mapped map chain x page % 65536 → Some o ≡ leads_to map chain x page
  unfolding leads_to
  inside e f = ap Some f ∙ simp e

  -- led nowhere, or somewhere
  pub is_outside : leads_to map chain x page ≡ None → in_window map x ≡ false
  unfolding leads_to
  is_outside = go (in_window map x)
    where
      go : (t : Bool) → pick t (Some (mapped map chain x page % 65536)) None ≡ None → t ≡ false
      go true e = cc
      go false e = refl

  pub is_inside : {o : ℕ} → leads_to map chain x page ≡ Some o → (in_window map x ≡ true) × (o ≡ mapped map chain x page % 65536)
  unfolding leads_to
  is_inside {o} = go (in_window map x)
    where
      go : (t : Bool) → pick t (Some (mapped map chain x page % 65536)) None ≡ Some o → (t ≡ true) × (o ≡ mapped map chain x page % 65536)
      go true e = (refl, cc)
      go false e = (cc, cc)

-- `(x & 0xFFFE) | b`
pub low_replaced : (x b : ℕ) → b ≤ 1 → bit_or (bit_and x 65534) b ≡ with_bit0 b x % 65536
low_replaced x b l = ap (λ (y : ℕ). bit_or y b) (and_high x 15 1) ∙ or_shifted (x / 2 % 32768) 1 b (omega arith) ∙ omega arith

-- `(x & 0xFFFE) | (x >> 16 & 1)`
pub bit_16_replaced : (x : ℕ) → bit_or (bit_and x 65534) (bit_and (x / 65536) 1) ≡ with_bit0 (bit 16 x) x % 65536
bit_16_replaced x = low_replaced x (bit_and (x / 65536) 1) (and_le_r (x / 65536) 1) ∙ ap (λ (b : ℕ). with_bit0 b x % 65536) (shr_and_one x 16)

-- `x & 0xFFFF`
pub low_16 : (x : ℕ) → bit_and x 65535 ≡ x % 65536
low_16 x = and_mask x 16

pub page_replaced : (x : ℕ) (page : Bool) → bit_or (bit_and x 65534) (bool_byte page) ≡ with_bit0 (bit_of page) x % 65536
page_replaced x true = low_replaced x 1 (omega arith)
page_replaced x false = low_replaced x 0 (omega arith)

-- an address of a window of at most 64K, counted from its first
pub from_first : (x first : ℕ) → first ≤ x → x ≤ first + 65535 → x - first ≡ (x - first) % 65536
from_first x first l m = omega arith

-- ---- the tests of Miscellaneous

pub chain-clear : (b : ℕ) → b ≡ 0 → not (eqb b 0) ≡ false
chain-clear b e = simp (eq-eqb b 0 e)

pub chain-set : (b : ℕ) → (b ≡ 0 → ⊥) → not (eqb b 0) ≡ true
chain-set b n = simp (ne_eqb b 0 n)

module _ (m : ℕ) where
  -- bit 1 is chain odd/even
  pub chain_is : not (eqb (bit_and m 2) 0) ≡ chain_of m
  unfolding bit
  chain_is = rw (and_high m 1 1) (go (m / 2 % 2) (omega arith))
    where
      go : (b : ℕ) → b < 2 → not (eqb (b * 2) 0) ≡ is_one b
      go zero l = refl
      go (suc zero) l = refl
      go (suc (suc b)) l = absurd (omega arith)

  -- bits 2 and 3 are the map
  two-bits : m / 4 % 4 ≡ m / 4 % 2 + 2 * (m / 8 % 2)
  two-bits =
      let h : m / 8 ≡ m / 4 / 2 = omega arith in
      let q : m / 4 / 2 % 2 ≡ m / 4 / 2 - 2 * (m / 4 / 4) = omega arith in
      omega (arith, h, q)

  pub map_128k : bit_and m 8 ≡ 0 → bit_and m 4 ≡ 0 → map_of m ≡ A0000_128k
  unfolding field
  map_128k e f = let n : m / 4 % 4 ≡ 0 = omega (arith, e, f, and_high m 1 3, and_high m 1 2, two-bits) in rw n

  pub map_64k : bit_and m 8 ≡ 0 → (bit_and m 4 ≡ 0 → ⊥) → map_of m ≡ A0000_64K
  unfolding field
  map_64k e f = let n : m / 4 % 4 ≡ 1 = omega (arith, e, f, and_high m 1 3, and_high m 1 2, two-bits) in rw n

  pub map_b0000 : (bit_and m 8 ≡ 0 → ⊥) → bit_and m 4 ≡ 0 → map_of m ≡ B0000_32K
  unfolding field
  map_b0000 e f = let n : m / 4 % 4 ≡ 2 = omega (arith, e, f, and_high m 1 3, and_high m 1 2, two-bits) in rw n

  pub map_b8000 : (bit_and m 8 ≡ 0 → ⊥) → (bit_and m 4 ≡ 0 → ⊥) → map_of m ≡ B8000_32K
  unfolding field
  map_b8000 e f = let n : m / 4 % 4 ≡ 3 = omega (arith, e, f, and_high m 1 3, and_high m 1 2, two-bits) in rw n

-- an answer that leaves things as they are is the same answer whatever they are
pub left : {S T : Type 0} (n : ℕ) (v : Value) (a : Said) (s : S) (t : T) → outcome a s ≡ answered n v s s → outcome a t ≡ answered n v t t
left zero v a s t e = ap (λ (b : Said). outcome b t) (ap (λ (o : Outcome _). o.answer) e)
left (suc n) v a s t e = ap (λ (b : Said). outcome b t) (ap (λ (o : Outcome _). o.answer) e)
