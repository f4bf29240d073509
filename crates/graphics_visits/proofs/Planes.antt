-- A write's planes: four tests as four bits, bytes laid plane by plane, and the deed of a write from them.
use Prim.Native.Nat.{ℕ, suc, ◌+◌, ◌*◌, ◌<◌, min}
use native.Mathlib.Omega.{arith}
use native.Mathlib.Numerals.{add-one}
use mathlib.Core.Path.{◌≡◌, refl, sym, ap, ap₂, ◌∙◌}
use mathlib.Core.Bool.{Bool, true, false, ◌&&◌, ◌||◌}
use mathlib.Core.List.{List}
use lib.Dec.{eqb, lit<}
use lib.Bits.{bit_and, and_lt}
use lib.ListN.{set}
use borrow.Author.Tests.{eqb-true}
use Rattle.bits.specs.Bit.{bit, of_bits, is_one, bit_of, pick}
use Rattle.bits.proofs.Laws.{test-lt, bit-of, of_lt, is-of}
use Rattle.bits.proofs.Bitwise.{bit-and}
use Rattle.machine_types.specs.declared.gc.GraphicsRegisters.{GraphicsRegisters}
use Rattle.machine_types.specs.declared.gc.OddEvenModeComplement.{OddEvenModeComplement}
use Rattle.machine_types.specs.declared.gc.WriteMode.{WriteMode}
use Rattle.machine_types.specs.declared.seq.Sequencer.{Sequencer}
use Rattle.machine.specs.Memory.{Memory, plane}
use Rattle.machine.specs.Answers.{Value, changes, changes_of}
use Rattle.machine.specs.Graphics.{odd_even}
use Rattle.machine.specs.Sequencer.{chain_four, in_mask, stored_at}
use Rattle.machine.specs.Address.{a0}
use Rattle.machine.specs.DataPath.{visits}
use Rattle.machine.specs.Deeds.{latch, any, laid, remade, stored, stored_byte, changed_at, memory_after}
use Rattle.machine.specs.Calls.{write_deed}
use Rattle.machine.proofs.Laws.{below, laid_none, laid-all, laid_more, laid-skip}
use Rattle.machine.proofs.Changes.{remade-changes}
use Rattle.sequencer_masks.specs.Mask.{mask_of}
use Rattle.graphics_bytes.specs.PlaneBytes.{plane_bytes, four}
use Rattle.graphics_bytes.proofs.Bytes.{latch-four}
use Rattle.graphics_visits.specs.Writes.{stores, stores_to}

-- ---- four tests as four bits

is_one_lem : (b : Bool) → is_one (bit_of b) ≡ b
is_one_lem true = refl
is_one_lem false = refl

both-tests : (a b : Bool) → min (bit_of a) (bit_of b) ≡ bit_of (a && b)
both-tests true true = refl
both-tests true false = refl
both-tests false b = omega arith

-- bit p tells test p
pub test_at : (f : ℕ → Bool) (p : ℕ) → p < 4 → is_one (bit p (of_bits 4 (λ q. bit_of (f q)))) ≡ f p
test_at f p h = ap is_one (bit-of 4 (λ q. bit_of (f q)) (λ q. test-lt (f q)) p h) ∙ is_one_lem (f p)

-- the bits that two masks share are the tests that both pass
pub tests-shared : (f g : ℕ → Bool) → bit_and (of_bits 4 (λ p. bit_of (f p))) (of_bits 4 (λ p. bit_of (g p))) ≡ of_bits 4 (λ p. bit_of (f p && g p))
tests-shared f g =
    let hf : (p : ℕ) → bit_of (f p) < 2 = λ p. test-lt (f p) in
    let hg : (p : ℕ) → bit_of (g p) < 2 = λ p. test-lt (g p) in
    is-of 4 (and_lt 4 _ _ (of_lt 4 (λ p. bit_of (f p)) hf) (of_lt 4 (λ p. bit_of (g p)) hg))
    (λ p h. bit-and p _ _ ∙ ap₂ min (bit-of 4 (λ p. bit_of (f p)) hf p h) (bit-of 4 (λ p. bit_of (g p)) hg p h) ∙ both-tests (f p) (g p))

-- ---- the planes that a write stores

module _ (r : GraphicsRegisters) (s : Sequencer) (x o k : ℕ) (a : Bool) (masks : k ≡ mask_of s o a) (even : a ≡ a0 x) where
  mask_is : k ≡ of_bits 4 (λ p. bit_of (in_mask s o (a0 x) p))
  unfolding mask_of
  mask_is = masks ∙ ap (mask_of s o) even

  -- visited, and in the mask
  pub both_masks : (v : ℕ) → v ≡ of_bits 4 (λ p. bit_of (visits r x p)) → bit_and v k ≡ stores_to r s x o
  unfolding stores_to stores
  both_masks v e = ap₂ bit_and e mask_is ∙ tests-shared (visits r x) (in_mask s o (a0 x))

  -- where the controller addresses sequentially, every plane is visited
  pub mask_alone : OddEvenModeComplement.Sequential ≡ odd_even r → k ≡ stores_to r s x o
  unfolding stores_to stores visits
  mask_alone e = rw (← e) mask_is

-- without chain-four a store stays at its offset
pub stays : (s : Sequencer) (o : ℕ) (b : Bool) → b ≡ chain_four s → b ≡ false → o ≡ stored_at s o
unfolding stored_at
stays s o b e n = rw (sym e ∙ n) refl

-- no bit: no test passes; a bit: some test does
module _ (f : ℕ → Bool) where
  pub none_passed : of_bits 4 (λ p. bit_of (f p)) ≡ 0 → any f ≡ false
  unfolding of_bits
  none_passed e = go (f 0) (f 1) (f 2) (f 3) e
    where
      go : (a b c d : Bool) → bit_of a + 2 * (bit_of b + 2 * (bit_of c + 2 * (bit_of d + 2 * 0))) ≡ 0 → (a || (b || (c || d))) ≡ false
      go true b c d e = absurd (omega arith)
      go false true c d e = absurd (omega arith)
      go false false true d e = absurd (omega arith)
      go false false false true e = absurd (omega arith)
      go false false false false e = refl

  pub some-passed : (of_bits 4 (λ p. bit_of (f p)) ≡ 0 → ⊥) → any f ≡ true
  unfolding of_bits
  some-passed n = go (f 0) (f 1) (f 2) (f 3) n
    where
      go : (a b c d : Bool) → (bit_of a + 2 * (bit_of b + 2 * (bit_of c + 2 * (bit_of d + 2 * 0))) ≡ 0 → ⊥) → (a || (b || (c || d))) ≡ true
      go true b c d n = refl
      go false true c d n = refl
      go false false true d n = refl
      go false false false true n = refl
      go false false false false n = absurd (n refl)

-- ---- bytes laid

-- tests that agree, and bytes that agree where they pass, lay the same
module _ (o : ℕ) (w w' : ℕ → Bool) (b b' : ℕ → ℕ) (m : Memory) (ew : (p : ℕ) → p < 4 → w p ≡ w' p) (eb : (p : ℕ) → p < 4 → w p ≡ true → b p ≡ b' p) where
  at : (p : ℕ) → p < 4 → pick (w p) (set (plane m p) o (b p)) (plane m p) ≡ pick (w' p) (set (plane m p) o (b' p)) (plane m p)
  at p h = go (w p) refl
    where
      go : (t : Bool) → w p ≡ t → pick (w p) (set (plane m p) o (b p)) (plane m p) ≡ pick (w' p) (set (plane m p) o (b' p)) (plane m p)
      go true e = rw (← ew p h, e, eb p h e)
      go false e = rw (← ew p h, e)

  pub laid-alike : laid o w b m ≡ laid o w' b' m
  unfolding laid
  laid-alike =
      let e0 = at 0 (lit< tt) in
      let e1 = at 1 (lit< tt) in
      let e2 = at 2 (lit< tt) in
      let e3 = at 3 (lit< tt) in
      cc

-- one visit more
pub turn : (o : ℕ) (w : ℕ → Bool) (b : ℕ → ℕ) (m₀ m : Memory) (k : ℕ) → k < 4 → m ≡ laid o (below k w) b m₀
    → pick (w k) (laid o (λ q. eqb q k) (λ q. b k) m) m ≡ laid o (below (k + 1) w) b m₀
turn o w b m₀ m k h e = rw (add-one k, e) (go (w k) refl)
  where
    go : (t : Bool) → w k ≡ t → pick t (laid o (λ q. eqb q k) (λ q. b k) (laid o (below k w) b m₀)) (laid o (below k w) b m₀) ≡ laid o (below (suc k) w) b m₀
    go true eb =
        laid-alike o (λ q. eqb q k) (λ q. eqb q k) (λ q. b k) b (laid o (below k w) b m₀) (λ p l. refl) (λ p l ep. ap b (sym (eqb-true p k ep)))
        ∙ laid_more o w b m₀ k h eb
    go false eb = laid-skip o w b m₀ k h eb

-- four visits
module _ (o : ℕ) (w : ℕ → Bool) (b : ℕ → ℕ) (m₀ m₁ m₂ m₃ m₄ : Memory) where
  abbrev visit : ℕ → Memory → Memory
  visit k m = pick (w k) (laid o (λ q. eqb q k) (λ q. b k) m) m

  module _ (e₁ : m₁ ≡ visit 0 m₀) (e₂ : m₂ ≡ visit 1 m₁) (e₃ : m₃ ≡ visit 2 m₂) (e₄ : m₄ ≡ visit 3 m₃) where
    first : m₁ ≡ laid o (below 1 w) b m₀
    first = e₁ ∙ turn o w b m₀ m₀ 0 (lit< tt) (sym (laid_none o w b m₀))

    second : m₂ ≡ laid o (below 2 w) b m₀
    second = e₂ ∙ turn o w b m₀ m₁ 1 (lit< tt) first

    third : m₃ ≡ laid o (below 3 w) b m₀
    third = e₃ ∙ turn o w b m₀ m₂ 2 (lit< tt) second

    pub all-visited : m₄ ≡ laid o w b m₀
    all-visited = e₄ ∙ turn o w b m₀ m₃ 3 (lit< tt) third ∙ laid-all o w b m₀

    -- .. and the number of each, of what is left after all four
    pub all-counted : {a b c d : ℕ} → a ≡ changed_at m₀ m₁ o 0 → b ≡ changed_at m₁ m₂ o 1 → c ≡ changed_at m₂ m₃ o 2 → d ≡ changed_at m₃ m₄ o 3
        → changes a b c d ≡ changes_of (changed_at m₀ m₄ o)
    unfolding changed_at laid
    all-counted ea eb ec ed = rw (ea, eb, ec, ed, all-visited, third, second, first)

-- ---- the deed of a write

-- the four numbers of the bytes laid are those of what is left once the pixels are remade
pub write-numbers : (m m' m'' : Memory) (v : Value) (place o : ℕ) → v ≡ changes_of (changed_at m m' place) → m'' ≡ remade place m' → place ≡ o → v ≡ changes_of (changed_at m m'' o)
write-numbers m m' m'' v place o ev left e = rw (← e) (ev ∙ sym (remade-changes m place place m') ∙ ap (λ (k : Memory). changes_of (changed_at m k place)) (sym left))

module _ (w : WriteMode) (r : GraphicsRegisters) (s : Sequencer) (x o v : ℕ) (l : List ℕ) (m : Memory) where
  -- nothing moves where no plane is stored
  pub write-none : (q : ℕ) → q ≡ stores_to r s x o → q ≡ 0 → m ≡ memory_after (write_deed w r s x o v) l m
  unfolding memory_after write_deed stored stores stores_to
  write-none q e z = rw (none_passed (stores r s x o) (sym e ∙ z))

  -- else the bytes are laid, and the pixels remade once
  stored-once : any (stores r s x o) ≡ true → remade (stored_at s o) (laid (stored_at s o) (stores r s x o) (plane_bytes w r v l) m) ≡ memory_after (write_deed w r s x o v) l m
  unfolding memory_after write_deed stored stored_byte stores plane_bytes
  stored-once e = rw e

  -- as the code stores them: by the bits of a mask, from an array of four
  pub write-some : (q place : ℕ) (b : List ℕ) → q ≡ stores_to r s x o → (q ≡ 0 → ⊥) → b ≡ four (plane_bytes w r v l) → place ≡ stored_at s o
      → remade place (laid place (λ p. is_one (bit p q)) (latch b) m) ≡ memory_after (write_deed w r s x o v) l m
  unfolding stores_to
  write-some q place b eq nz eb ep =
      rw ep
      (ap (remade (stored_at s o))
      (laid-alike (stored_at s o) (λ p. is_one (bit p q)) (stores r s x o) (latch b) (plane_bytes w r v l) m
      (λ p h. rw eq (test_at (stores r s x o) p h))
      (λ p h t. rw eb (latch-four (plane_bytes w r v l) p h)))
      ∙ stored-once (some-passed (stores r s x o) (λ z. nz (eq ∙ z))))
