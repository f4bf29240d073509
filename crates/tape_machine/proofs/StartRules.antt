-- What the program's start says: n = 4,096, memory zero, both register sets at start. By computation.
use Prim.Native.Nat.{ℕ, ◌-◌}
use mathlib.Core.Path.{◌≡◌, refl}
use mathlib.Core.List.{List, [], ◌∷◌, ◌++◌}
use lib.ListN.{length, replicate}
use Rattle.machine_types.specs.declared.answer.Refusal.TheVariants.{Room}
use Rattle.std.specs.Prelude.{Err}
use Rattle.tape_machine.specs.Run.{ran_to}
use Rattle.tape_machine.specs.Program.{tape_start, Printed, printed, printed_of}
use Rattle.tape_machine.proofs.Computed.{computed_run, line, show_line}

-- A0FFF is FF 9F 28, A1000 is 80 A0 28, B0000 is 80 80 2C; 4,095 is FF 1F, 4,096 is 80 20
pub starting : List ℕ
starting =
    -- reads of A0FFF, A1000 and B0000; shows of 4,095 and 4,096
    5 ∷ 0xFF ∷ 0x9F ∷ 0x28 ∷ 0 ∷ 5 ∷ 0x80 ∷ 0xA0 ∷ 0x28 ∷ 0 ∷ 5 ∷ 0x80 ∷ 0x80 ∷ 0x2C ∷ 0
    ∷ 8 ∷ 0xFF ∷ 0x1F ∷ 8 ∷ 0x80 ∷ 0x20
    -- planes 1 to 3 at A0FFF
    ∷ 1 ∷ 4 ∷ 2 ∷ 1 ∷ 5 ∷ 0xFF ∷ 0x9F ∷ 0x28 ∷ 0 ∷ 2 ∷ 2 ∷ 5 ∷ 0xFF ∷ 0x9F ∷ 0x28 ∷ 0 ∷ 2 ∷ 3 ∷ 5 ∷ 0xFF ∷ 0x9F ∷ 0x28 ∷ 0
    -- Bit Mask FF, a write of FF to A0FFF; Map Mask F, the same; the show of 4,095 after each
    ∷ 1 ∷ 8 ∷ 2 ∷ 0xFF ∷ 1 ∷ 6 ∷ 0xFF ∷ 0x9F ∷ 0x28 ∷ 0 ∷ 0xFF ∷ 1 ∷ 8 ∷ 0xFF ∷ 0x1F
    ∷ 3 ∷ 2 ∷ 4 ∷ 15 ∷ 6 ∷ 0xFF ∷ 0x9F ∷ 0x28 ∷ 0 ∷ 0xFF ∷ 1 ∷ 8 ∷ 0xFF ∷ 0x1F ∷ []

-- 128K, address as it stands: A0FFF is offset 4,095, A1000 is n, B0000 is 0. Map Mask 0 stores nothing; under odd/even F and (5 shifted left by 1) is A
pub starting_said : List ℕ
unfolding line show_line
starting_said =
    line 1 5 0 0 ++ (line 2 5 3 0 ++ (line 3 5 0 0 ++ (show_line 4 0 ++ (line 5 8 5 0
    ++ (line 6 1 0 0 ++ (line 7 2 0 0 ++ (line 8 5 0 0 ++ (line 9 2 0 0 ++ (line 10 5 0 0 ++ (line 11 2 0 0 ++ (line 12 5 0 0
    ++ (line 13 1 0 0 ++ (line 14 2 0 0 ++ (line 15 6 0 0 ++ (show_line 16 0
    ++ (line 17 3 0 0 ++ (line 18 4 0 0 ++ (line 19 6 0 0 ++ show_line 20 10))))))))))))))))))

-- a tape run from the start, with every definition open
unfoldable pub computed_printed : List ℕ → List ℕ → Printed
unfolding computed_run tape_start printed_of
computed_printed tape out = printed_of tape out

-- where there is room for the longest line for each of the 73 bytes: the lines at the start of `out`, the other bytes as they were
pub start-rules : ((computed_printed starting (replicate 6132 7)).out ≡ starting_said ++ replicate (6132 - length starting_said) 7)
    × ((computed_printed starting (replicate 6132 7)).ran.written ≡ length starting_said)
unfolding computed_printed starting starting_said
start-rules = (refl, refl)

-- .. and with a byte less: refusal 10, and nothing is done
pub start-no-room : computed_printed starting (replicate 6131 7) ≡ printed (ran_to (Err Room) 0 tape_start) (replicate 6131 7)
unfolding computed_printed starting
start-no-room = refl
