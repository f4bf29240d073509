-- The logic step on whole bytes is the machine's rule bit by bit.
use Prim.Native.Nat.{ℕ, ◌-◌, ◌<◌, ◌^◌, min, max}
use mathlib.Core.Path.{◌≡◌, ◌∙◌}
use lib.Bits.{bit_and, bit_or, bit_xor, differ}
use Rattle.bits.specs.Bit.{bit, byte_of}
use Rattle.bits.proofs.Laws.{bit-lt, is-of}
use Rattle.bits.proofs.Bitwise.{bitwise, bytes}
use Rattle.bits.proofs.Decide.{same3}
use Rattle.machine_types.specs.declared.gc.LogicFunction.{LogicFunction}
use Rattle.machine_types.specs.declared.gc.LogicFunction.TheVariants.{Unmodified, And, Or, Xor}
use Rattle.machine.specs.DataPath.{combined, masked}

-- the code's expression for each function
abbrev pub whole : LogicFunction → ℕ → ℕ → ℕ → ℕ
whole Unmodified m d l = bit_or (bit_and d m) (bit_and (255 - m) l)
whole And m d l = bit_and (bit_or d (255 - m)) l
whole Or m d l = bit_or (bit_and d m) l
whole Xor m d l = bit_xor (bit_and d m) l

-- the same on bits
abbrev single : LogicFunction → ℕ → ℕ → ℕ → ℕ
single Unmodified m d l = max (min d m) (min (1 - m) l)
single And m d l = min (max d (1 - m)) l
single Or m d l = max (min d m) l
single Xor m d l = differ (min d m) l

-- what the code does to bits is the rule: eight cases a function
right : (f : LogicFunction) (m d l : ℕ) → m < 2 → d < 2 → l < 2 → single f m d l ≡ masked f m d l
unfolding combined masked
right Unmodified = same3 (single Unmodified) (masked Unmodified) tt
right And = same3 (single And) (masked And) tt
right Or = same3 (single Or) (masked Or) tt
right Xor = same3 (single Xor) (masked Xor) tt

module _ (m d l : ℕ) (hm : m < 256) (hd : d < 256) (hl : l < 256) where
  apart : (f : LogicFunction) (i : ℕ) → i < 8 → bit i (whole f m d l) ≡ single f (bit i m) (bit i d) (bit i l)
  apart Unmodified i h = simp bitwise
  apart And i h = simp bitwise
  apart Or i h = simp bitwise
  apart Xor i h = simp bitwise

  small : (f : LogicFunction) → whole f m d l < 2 ^ 8
  small Unmodified = search bytes
  small And = search bytes
  small Or = search bytes
  small Xor = search bytes

  pub whole_is : (f : LogicFunction) → whole f m d l ≡ byte_of (λ i. masked f (bit i m) (bit i d) (bit i l))
  whole_is f = is-of 8 (small f) (λ i h. apart f i h ∙ right f (bit i m) (bit i d) (bit i l) (bit-lt i m) (bit-lt i d) (bit-lt i l))
