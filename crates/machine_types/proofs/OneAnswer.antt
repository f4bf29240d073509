-- What a theorem of determinacy says of a contract, by the contract's own reading, `Post`: for one input it leaves one answer.
use mathlib.Core.Path.{◌≡◌}

-- two answers that it permits, whatever the call leaves, are the same
abbrev pub OneAnswer : {R E : Type 0} → (R → E → Type 0) → Type 0
OneAnswer {R} {E} Post = (r r' : R) (e e' : E) → Post r e → Post r' e' → r ≡ r'

-- and so is what is left, as `left` reads it
abbrev pub OneOutcome : {R E M : Type 0} → (R → E → Type 0) → (E → M) → Type 0
OneOutcome {R} {E} {M} Post left = (r r' : R) (e e' : E) → Post r e → Post r' e' → (r ≡ r') × (left e ≡ left e')
