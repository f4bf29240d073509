-- A run that has come to a record: what the loop of `play` keeps.
use Prim.Native.Nat.{ℕ, ◌+◌, ◌^◌, ◌≤◌, ◌<◌}
use native.Mathlib.Nat.{add-zero, zero-add, add_assoc}
use native.Mathlib.Omega.{arith}
use mathlib.Core.Path.{◌≡◌, refl, ap, sym, subst, ◌∙◌}
use mathlib.Core.List.{List, [], ◌∷◌}
use lib.ListN.{length, length-append}
use lib.Seq.{sets, length-sets}
use Rattle.std.specs.Prelude.{Some, Ok, Err}
use Rattle.machine.specs.Answers.{Said, Outcome, outcome}
use Rattle.machine.specs.Step.{State}
use Rattle.tape_records.specs.declared.records.Whole.{Whole}
use Rattle.tape_records.specs.declared.records.Broken.{Broken}
use Rattle.tape_records.specs.Records.{Record}
use Rattle.tape_machine.specs.Performs.{performed}
use Rattle.tape_machine.specs.Text.{Put}
use Rattle.tape_machine.specs.Lines.{line_of}
use Rattle.tape_machine.specs.Run.{records_of, operation_number, fault_said, record_line, left, lines_of, ending, tape_run, ran_to, played_of}
use Rattle.std.specs.Iterator.{YieldsFirst}
use Rattle.std.specs.declared.iter.Enumerate.{Enumerate}
use Rattle.std.specs.Iterator.Adapters.{enumerate_source, enumerate_count, enumerate_steps}
use Rattle.tape_machine.proofs.Room.{few_records}
use Rattle.tape_reader.specs.declared.records.Records.{Records}
use Rattle.tape_reader.specs.Records.{records_left}
use Rattle.tape_reader.proofs.Texts.{sets-append}

-- the machine stands at s, `out` has what was said, up to `place`, and `rest` is before it, its first record number k
put-length : {l m a : List ℕ} {at r : ℕ} → Put l at a m r → length m ≡ length l
put-length {l} {m} {a} {at} f = rw f.wrote (length-sets l at a)

pub record Held (all : List Record) (s₀ : State) (out₀ : List ℕ) (rest : List Record) (s : State) (out : List ℕ) (k place : ℕ) : Type 0 where
  pub text : sets out₀ 0 (lines_of 1 s₀ all) ≡ sets out place (lines_of k s rest)
  pub size : length (lines_of 1 s₀ all) ≡ place + length (lines_of k s rest)
  pub room : length (lines_of 1 s₀ all) ≤ length out
  pub same : length out ≡ length out₀
  pub end : ending s₀ all ≡ ending s rest

module _ (all : List Record) (s₀ : State) (out₀ : List ℕ) (r : Record) (rest : List Record) (s : State) (out : List ℕ) (k place : ℕ)
    (held : Held all s₀ out₀ (r ∷ rest) s out k place) where
  fits : place + length (record_line k s r) ≤ length out
  unfolding lines_of
  fits = omega (arith, held.size, held.room, length-append (record_line k s r) (lines_of (k + 1) (left s r) rest))

  turn : {out' : List ℕ} {place' : ℕ} → Put out place (record_line k s r) out' place' → Held all s₀ out₀ rest (left s r) out' (k + 1) place'
  unfolding lines_of ending
  turn {out'} {place'} p = record {
    text = held.text ∙ sets-append out place (record_line k s r) (lines_of (k + 1) (left s r) rest) ∙ rw (p.wrote, p.ends);
    size = held.size ∙ rw (p.ends, length-append (record_line k s r) (lines_of (k + 1) (left s r) rest))
        (sym (add_assoc place (length (record_line k s r)) (length (lines_of (k + 1) (left s r) rest))));
    room = rw (put-length p) held.room;
    same = put-length p ∙ held.same;
    end = held.end;
  }

-- none is left
pub all_played : (tape : List ℕ) (s₀ : State) (out₀ : List ℕ) {rest : List Record} {s : State} {out : List ℕ} {k place : ℕ}
    → rest ≡ [] → Held (records_of tape) s₀ out₀ rest s out k place → tape_run (ran_to (Ok tt) place s) s.memory out ≡ played_of tape s₀ out₀
unfolding played_of lines_of ending
all_played tape s₀ out₀ {place = place} e h = let held = rw e at h in rw (held.end, held.text, held.size, add-zero place)

pub first_held : (all : List Record) (s₀ : State) (out₀ : List ℕ) → length (lines_of 1 s₀ all) ≤ length out₀ → Held all s₀ out₀ all s₀ out₀ 1 0
first_held all s₀ out₀ h = record { text = refl; size = sym (zero-add _); room = h; same = refl; end = refl }

module _ (all : List Record) (s₀ : State) (out₀ : List ℕ) (rest : List Record) (s : State) (out : List ℕ) (k place : ℕ) where
  -- a record that was performed
  module _ (x : Whole) (held : Held all s₀ out₀ (Ok x ∷ rest) s out k place) {a : Said} {s' : State} (went : outcome a s' ≡ performed s x.command) {o : ℕ} (number : o ≡ operation_number x.command) where
    line-whole : line_of k (Some o) a ≡ record_line k s (Ok x)
    unfolding record_line
    line-whole = rw (← went, number)

    pub whole_fits : place + length (line_of k (Some o) a) ≤ length out
    whole_fits = rw line-whole (fits _ _ _ _ _ _ _ _ _ held)

    pub whole_turn : {out' : List ℕ} {place' : ℕ} → Put out place (line_of k (Some o) a) out' place' → Held all s₀ out₀ rest s' out' (k + 1) place'
    unfolding left
    whole_turn p = rw (ap (λ (o : Outcome State). o.next) (sym went)) at (turn _ _ _ _ _ _ _ _ _ held (rw line-whole at p))

  -- a broken one
  module _ (x : Broken) (held : Held all s₀ out₀ (Err x ∷ rest) s out k place) {a : Said} (told : a ≡ fault_said x.fault) where
    line-broken : line_of k x.operation a ≡ record_line k s (Err x)
    unfolding record_line
    line-broken = rw told

    pub broken_fits : place + length (line_of k x.operation a) ≤ length out
    broken_fits = rw line-broken (fits _ _ _ _ _ _ _ _ _ held)

    pub broken_turn : {out' : List ℕ} {place' : ℕ} → Put out place (line_of k x.operation a) out' place' → Held all s₀ out₀ rest s out' (k + 1) place'
    unfolding left
    broken_turn p = turn _ _ _ _ _ _ _ _ _ held (rw line-broken at p)

-- ---- the loop, at an iterator's place in the tape

pub record Loop (all : List Record) (s₀ : State) (out₀ : List ℕ) (before : Enumerate Records) (s : State) (out : List ℕ) (place : ℕ) : Type 0 where
  pub few : enumerate_count before + length (records_left (enumerate_source before)) + 1 < 2 ^ 64
  pub held : Held all s₀ out₀ (records_left (enumerate_source before)) s out (enumerate_count before + 1) place

module _ (tape : List ℕ) (s₀ : State) (out₀ : List ℕ) where
  pub loop_first : (it : Enumerate Records) → enumerate_count it ≡ 0 → (enumerate_source it).rest.now ≡ tape → length tape + 1 < 2 ^ 64
      → length (lines_of 1 s₀ (records_of tape)) ≤ length out₀ → Loop (records_of tape) s₀ out₀ it s₀ out₀ 0
  loop_first it z e l h = record { few = rw (z, e) (omega (arith, few_records tape)); held = rw (z, e) (first_held (records_of tape) s₀ out₀ h) }

  pub loop_end : (it : Enumerate Records) {s : State} {out : List ℕ} {place : ℕ} → records_left (enumerate_source it) ≡ [] → Loop (records_of tape) s₀ out₀ it s out place
      → tape_run (ran_to (Ok tt) place s) s.memory out ≡ played_of tape s₀ out₀
  loop_end it e loop = all_played tape s₀ out₀ e loop.held

-- a turn, at the record that `next` handed out
module _ (all : List Record) (s₀ : State) (out₀ : List ℕ) (before after : Enumerate Records) {s : State} {out : List ℕ} {place : ℕ} (loop : Loop all s₀ out₀ before s out place)
    (n : ℕ) (r : Record) (steps : enumerate_steps (YieldsFirst records_left) before (Some (n, r)) after) where
  came : Held all s₀ out₀ (r ∷ records_left (enumerate_source after)) s out (n + 1) place
  came = rw (steps.1, ← steps.0) loop.held

  -- the same at the iterator's next place
  further : {s' : State} {out' : List ℕ} {place' : ℕ} → Held all s₀ out₀ (records_left (enumerate_source after)) s' out' (n + 1 + 1) place' → Loop all s₀ out₀ after s' out' place'
  further {s'} {out'} {place'} h = record {
    few = omega (arith, loop.few, steps.2, ap length steps.0);
    held = subst (λ (k : ℕ). Held all s₀ out₀ (records_left (enumerate_source after)) s' out' k place') (omega (arith, steps.1, steps.2)) h;
  }

  module _ {x : Whole} (is : r ≡ Ok x) {a : Said} {s' : State} (went : outcome a s' ≡ performed s x.command) {o : ℕ} (number : o ≡ operation_number x.command) where
    pub whole_room : place + length (line_of (n + 1) (Some o) a) ≤ length out
    whole_room = whole_fits _ _ _ _ _ _ _ _ x (rw is at came) went number

    pub whole_loop : {out' : List ℕ} {place' : ℕ} → Put out place (line_of (n + 1) (Some o) a) out' place' → Loop all s₀ out₀ after s' out' place'
    whole_loop p = further (whole_turn _ _ _ _ _ _ _ _ x (rw is at came) went number p)

  module _ {x : Broken} (is : r ≡ Err x) {a : Said} (told : a ≡ fault_said x.fault) where
    pub broken_room : place + length (line_of (n + 1) x.operation a) ≤ length out
    broken_room = broken_fits _ _ _ _ _ _ _ _ x (rw is at came) told

    pub broken_loop : {out' : List ℕ} {place' : ℕ} → Put out place (line_of (n + 1) x.operation a) out' place' → Loop all s₀ out₀ after s out' place'
    broken_loop p = further (broken_turn _ _ _ _ _ _ _ _ x (rw is at came) told p)
