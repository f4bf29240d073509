-- `command` makes the operation's command of the arguments that it has: from each argument's own answer, the operation put in.
use mathlib.Core.Path.{refl, ◌∙◌}
use native.Mathlib.Omega.{arith}
use Rattle.bits.specs.Bit.{bit_of}
use Rattle.tape_records.specs.Records.{arguments, greatest_of, command_of}
use Rattle.tape_records.proofs.Judging.{at_reset, out_of_range, no_second, no_third, first_ok, first_err, second_ok, second_err, third_ok, third_err, read_so, write_so, peek_so}
use Rattle.tape_records.proofs.arguments.Arguments.command.Goals as goal

pub returns-in-0 : goal.returns-in-0
returns-in-0 c =
    rw c.in-0.is (at_reset _ _)

pub returns-in_err-byte-in-1 : goal.returns-in_err-byte-in-1
unfolding arguments greatest_of
returns-in_err-byte-in-1 c =
    rw c.in-1.is (first_err _ 1 (λ x. x) c.byte.ensures refl _ _ c.in_err-byte-in-1.was c.from_residual.ensures.1 refl refl)

pub returns-in_ok-byte-in-1 : goal.returns-in_ok-byte-in-1
unfolding arguments greatest_of command_of
returns-in_ok-byte-in-1 c =
    rw c.in-1.is (first_ok _ 1 (λ x. x) c.byte.ensures refl _ c.in_ok-byte-in-1.was refl refl
    ∙ no_second _ 1 _ _ refl
    ∙ no_third _ 1 _ _ _ refl)

pub returns-in_err-byte-in-2 : goal.returns-in_err-byte-in-2
unfolding arguments greatest_of
returns-in_err-byte-in-2 c =
    rw c.in-2.is (first_err _ 2 (λ x. x) c.byte-in-2.ensures refl _ _ c.in_err-byte-in-2.was c.from_residual-in_err-byte-in-2.ensures.1 refl refl)

pub returns-in_ok-byte-in-2 : goal.returns-in_ok-byte-in-2
unfolding arguments greatest_of command_of
returns-in_ok-byte-in-2 c =
    rw c.in-2.is (first_ok _ 2 (λ x. x) c.byte-in-2.ensures refl _ c.in_ok-byte-in-2.was refl refl
    ∙ no_second _ 2 _ _ refl
    ∙ no_third _ 2 _ _ _ refl)

pub returns-in_err-byte-in-3 : goal.returns-in_err-byte-in-3
unfolding arguments greatest_of
returns-in_err-byte-in-3 c =
    rw c.in-3.is (first_err _ 3 (λ x. x) c.byte-in-3.ensures refl _ _ c.in_err-byte-in-3.was c.from_residual-in_err-byte-in-3.ensures.1 refl refl)

pub returns-in_ok-byte-in-3 : goal.returns-in_ok-byte-in-3
unfolding arguments greatest_of command_of
returns-in_ok-byte-in-3 c =
    rw c.in-3.is (first_ok _ 3 (λ x. x) c.byte-in-3.ensures refl _ c.in_ok-byte-in-3.was refl refl
    ∙ no_second _ 3 _ _ refl
    ∙ no_third _ 3 _ _ _ refl)

pub returns-in_err-byte-in-4 : goal.returns-in_err-byte-in-4
unfolding arguments greatest_of
returns-in_err-byte-in-4 c =
    rw c.in-4.is (first_err _ 4 (λ x. x) c.byte-in-4.ensures refl _ _ c.in_err-byte-in-4.was c.from_residual-in_err-byte-in-4.ensures.1 refl refl)

pub returns-in_ok-byte-in-4 : goal.returns-in_ok-byte-in-4
unfolding arguments greatest_of command_of
returns-in_ok-byte-in-4 c =
    rw c.in-4.is (first_ok _ 4 (λ x. x) c.byte-in-4.ensures refl _ c.in_ok-byte-in-4.was refl refl
    ∙ no_second _ 4 _ _ refl
    ∙ no_third _ 4 _ _ _ refl)

pub returns-in_err-place-in-5 : goal.returns-in_err-place-in-5
unfolding arguments greatest_of
returns-in_err-place-in-5 c =
    rw c.in-5.is (first_err _ 5 (λ x. x) c.place.ensures refl _ _ c.in_err-place-in-5.was c.from_residual-in_err-place-in-5.ensures.1 refl refl)

pub returns-in_err-page-in-5 : goal.returns-in_err-page-in-5
unfolding arguments greatest_of
returns-in_err-page-in-5 c =
    rw c.in-5.is (first_ok _ 5 (λ x. x) c.place.ensures refl _ c.in_ok-place-in-5.was refl refl
    ∙ second_err _ 5 bit_of c.page.ensures (cc) _ _ _ c.in_err-page-in-5.was c.from_residual-in_err-page-in-5.ensures.1 refl)

pub returns-in_ok-page-in-5 : goal.returns-in_ok-page-in-5
unfolding arguments greatest_of
returns-in_ok-page-in-5 c =
    rw c.in-5.is (first_ok _ 5 (λ x. x) c.place.ensures refl _ c.in_ok-place-in-5.was refl refl
    ∙ second_ok _ 5 bit_of c.page.ensures (cc) _ _ c.in_ok-page-in-5.was refl
    ∙ no_third _ 5 _ _ _ refl
    ∙ read_so _ _ _)

pub returns-in_err-place-in-6 : goal.returns-in_err-place-in-6
unfolding arguments greatest_of
returns-in_err-place-in-6 c =
    rw c.in-6.is (first_err _ 6 (λ x. x) c.place-in-6.ensures refl _ _ c.in_err-place-in-6.was c.from_residual-in_err-place-in-6.ensures.1 refl refl)

pub returns-in_err-page-in-6 : goal.returns-in_err-page-in-6
unfolding arguments greatest_of
returns-in_err-page-in-6 c =
    rw c.in-6.is (first_ok _ 6 (λ x. x) c.place-in-6.ensures refl _ c.in_ok-place-in-6.was refl refl
    ∙ second_err _ 6 bit_of c.page-in-6.ensures (cc) _ _ _ c.in_err-page-in-6.was c.from_residual-in_err-page-in-6.ensures.1 refl)

pub returns-in_err-byte-in-6 : goal.returns-in_err-byte-in-6
unfolding arguments greatest_of
returns-in_err-byte-in-6 c =
    rw c.in-6.is (first_ok _ 6 (λ x. x) c.place-in-6.ensures refl _ c.in_ok-place-in-6.was refl refl
    ∙ second_ok _ 6 bit_of c.page-in-6.ensures (cc) _ _ c.in_ok-page-in-6.was refl
    ∙ third_err _ 6 (λ x. x) c.byte-in-6.ensures (cc) _ _ _ _ c.in_err-byte-in-6.was c.from_residual-in_err-byte-in-6.ensures.1 refl)

pub returns-in_ok-byte-in-6 : goal.returns-in_ok-byte-in-6
unfolding arguments greatest_of
returns-in_ok-byte-in-6 c =
    rw c.in-6.is (first_ok _ 6 (λ x. x) c.place-in-6.ensures refl _ c.in_ok-place-in-6.was refl refl
    ∙ second_ok _ 6 bit_of c.page-in-6.ensures (cc) _ _ c.in_ok-page-in-6.was refl
    ∙ third_ok _ 6 (λ x. x) c.byte-in-6.ensures (cc) _ _ _ c.in_ok-byte-in-6.was refl
    ∙ write_so _ _ _ _)

pub returns-in_err-place-in-7 : goal.returns-in_err-place-in-7
unfolding arguments greatest_of
returns-in_err-place-in-7 c =
    rw c.in-7.is (first_err _ 7 (λ x. x) c.place-in-7.ensures refl _ _ c.in_err-place-in-7.was c.from_residual-in_err-place-in-7.ensures.1 refl refl)

pub returns-in_err-page-in-7 : goal.returns-in_err-page-in-7
unfolding arguments greatest_of
returns-in_err-page-in-7 c =
    rw c.in-7.is (first_ok _ 7 (λ x. x) c.place-in-7.ensures refl _ c.in_ok-place-in-7.was refl refl
    ∙ second_err _ 7 bit_of c.page-in-7.ensures (cc) _ _ _ c.in_err-page-in-7.was c.from_residual-in_err-page-in-7.ensures.1 refl)

pub returns-in_ok-page-in-7 : goal.returns-in_ok-page-in-7
unfolding arguments greatest_of
returns-in_ok-page-in-7 c =
    rw c.in-7.is (first_ok _ 7 (λ x. x) c.place-in-7.ensures refl _ c.in_ok-place-in-7.was refl refl
    ∙ second_ok _ 7 bit_of c.page-in-7.ensures (cc) _ _ c.in_ok-page-in-7.was refl
    ∙ no_third _ 7 _ _ _ refl
    ∙ peek_so _ _ _)

pub returns-in_err-place-in-8 : goal.returns-in_err-place-in-8
unfolding arguments greatest_of
returns-in_err-place-in-8 c =
    rw c.in-8.is (first_err _ 8 (λ x. x) c.place-in-8.ensures refl _ _ c.in_err-place-in-8.was c.from_residual-in_err-place-in-8.ensures.1 refl refl)

pub returns-in_ok-place-in-8 : goal.returns-in_ok-place-in-8
unfolding arguments greatest_of command_of
returns-in_ok-place-in-8 c =
    rw c.in-8.is (first_ok _ 8 (λ x. x) c.place-in-8.ensures refl _ c.in_ok-place-in-8.was refl refl
    ∙ no_second _ 8 _ _ refl
    ∙ no_third _ 8 _ _ _ refl)

pub returns-in_default : goal.returns-in_default
returns-in_default c =
    out_of_range _ _ _ (omega arith)
