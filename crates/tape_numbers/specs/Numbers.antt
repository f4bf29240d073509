-- What a tape's number is: "groups of seven bits, low group first, top bit set when more follow; at most 2^32 - 1, shortest form only".
use Rattle.std.specs.Prelude.{ℕ, zero, suc, ◌+◌, ◌-◌, ◌*◌, ◌/◌, ◌%◌, Bool, true, false, List, [], ◌∷◌, eqb, ltb, leb, Result, Ok, Err}
use Rattle.bits.specs.Bit.{pick}
use Rattle.tape_numbers.specs.declared.Number.{Number}
use Rattle.tape_numbers.specs.declared.NumberFault.{NumberFault}
use Rattle.tape_numbers.specs.declared.NumberFault.TheVariants.{Ended, Damaged}

-- one more than the greatest number of a tape; bound and width of a number are this one parameter, a limit
abbrev pub limit32 : ℕ
limit32 = 4294967296

-- what comes of reading: a number, or why there is none
abbrev pub Reading : Type 0
Reading = Result Number NumberFault

-- a number and the bytes that it took
abbrev pub read : ℕ → ℕ → Reading
read v n = Ok (record { value = v; taken = n })

-- the number above groups that make `low` and took `taken` bytes; its own first group weighs `weight`
unfoldable pub on_top : ℕ → ℕ → ℕ → Reading → Reading
on_top low weight taken (Ok x) = read (low + weight * x.value) (taken + x.taken)
on_top low weight taken (Err f) = Err f

-- a last group; 0 ends no longer number
unfoldable pub last_group : Bool → ℕ → Reading
last_group first b = pick (eqb b 0) (pick first (read 0 1) (Err Damaged)) (read b 1)

-- the groups of a number below a limit; `first` says that none went before. A group that is not below the limit is damage, and what
-- follows a group is read below a limit 128 times smaller: below 2^32 a fifth byte above 15 is damage, and so is a sixth byte
unfoldable pub groups : Bool → ℕ → List ℕ → Reading
groups first limit [] = Err Ended
groups first limit (b ∷ s) = pick (leb limit b) (Err Damaged) (pick (ltb b 128) (last_group first b) (on_top (b - 128) 128 1 (groups false (limit / 128) s)))

-- the number at the start of a list, and how many bytes it took
unfoldable pub number_of : ℕ → List ℕ → Reading
number_of limit s = groups true limit s

-- a number written in its shortest form, of at most k bytes
unfoldable pub shortest_form : ℕ → ℕ → List ℕ
shortest_form zero v = []
shortest_form (suc k) v = pick (ltb v 128) (v ∷ []) ((128 + v % 128) ∷ shortest_form k (v / 128))
