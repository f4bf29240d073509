-- What the judges test is what the machine tests: the lengths, and pixel places.
use Rattle.std.proofs.Common.{◌≡◌, ℕ, ◌+◌, ◌*◌, ◌/◌, ◌%◌, ◌^◌, ◌<◌, ◌≤◌, Bool, true, false, eqb, sym, refl, ap, ◌∙◌, true≢false, arith, le-ltb, lt-ltb, eq-eqb, ne_eqb, le-leb}
use lib.Bits.{bit_or, bit_xor, xor_add_and, xor_self, or_add_and, and_le_l, and_le_r}
use Rattle.machine_types.specs.declared.shape.Shape.{Shape}
use Rattle.machine.specs.Memory.{sound, Sound}
use Rattle.machine.specs.Calls.{place_number}
use Rattle.machine.proofs.Laws.{sound-facts}

-- ---- refusal 1: an exclusive or is 0 where both sides are equal, an or where both are 0

xor-zero : (a b : ℕ) → bit_xor a b ≡ 0 → a ≡ b
xor-zero a b e = omega (arith, xor_add_and a b, and_le_l a b, and_le_r a b)

xor_same : (a b : ℕ) → a ≡ b → bit_xor a b ≡ 0
xor_same a b e = ap (bit_xor a) (sym e) ∙ xor_self a

or-zero : (a b : ℕ) → bit_or a b ≡ 0 → (a ≡ 0) × (b ≡ 0)
or-zero a b e = (omega (arith, or_add_and a b, and_le_r a b), omega (arith, or_add_and a b, and_le_l a b))

-- what `shaped` tests, w being n - 1, wrapped
abbrev planes : Shape → ℕ
planes h = bit_or (bit_or (bit_xor h.p0 h.p1) (bit_xor h.p0 h.p2)) (bit_xor h.p0 h.p3)

abbrev picture : Shape → ℕ
picture h = bit_xor h.picture (h.p0 * 2 ^ 3 % 2 ^ 64)

abbrev unlike : Shape → ℕ → ℕ
unlike h w = bit_or (bit_or (planes h) (picture h)) (w / 2 ^ 16)

-- the planes
module _ (h : Shape) where
  alike : planes h ≡ 0 → (h.p1 ≡ h.p0) × (h.p2 ≡ h.p0) × (h.p3 ≡ h.p0)
  alike z =
      let a = or-zero (bit_or (bit_xor h.p0 h.p1) (bit_xor h.p0 h.p2)) (bit_xor h.p0 h.p3) z in
      let b = or-zero (bit_xor h.p0 h.p1) (bit_xor h.p0 h.p2) a.0 in (
        sym (xor-zero h.p0 h.p1 b.0),
        sym (xor-zero h.p0 h.p2 b.1),
        sym (xor-zero h.p0 h.p3 a.1),
      )

  planes-zero : Sound h → planes h ≡ 0
  planes-zero f = rw (f.same1, f.same2, f.same3, xor_self h.p0) refl

module _ (h : Shape) (w : ℕ) (fits : w < 2 ^ 64) (e : (w + 1) % 2 ^ 64 ≡ h.p0) where
  -- n is at most 65,536, so that 8n loses nothing
  zero-sound : unlike h w ≡ 0 → sound h ≡ true
  unfolding sound
  zero-sound z =
      let a = or-zero (bit_or (planes h) (picture h)) (w / 2 ^ 16) z in
      let b = or-zero (planes h) (picture h) a.0 in
      let same = alike h b.0 in
      let low : w < 65536 = omega (arith, a.1) in
      let n : h.p0 ≡ w + 1 = omega (arith, low, e) in
      let eight : h.picture ≡ 8 * h.p0 = omega (arith, n, low, xor-zero h.picture (h.p0 * 2 ^ 3 % 2 ^ 64) b.1) in
      simp (
        lt-ltb 0 h.p0 (omega (arith, n)),
        le-leb h.p0 65536 (omega (arith, n, low)),
        eq-eqb h.p1 h.p0 same.0,
        eq-eqb h.p2 h.p0 same.1,
        eq-eqb h.p3 h.p0 same.2,
        eq-eqb h.picture (8 * h.p0) eight,
      )

  sound-zero : Sound h → unlike h w ≡ 0
  sound-zero f =
      let pixels : picture h ≡ 0 = xor_same h.picture (h.p0 * 2 ^ 3 % 2 ^ 64) (omega (arith, f.eightfold, f.most)) in
      let some : w / 2 ^ 16 ≡ 0 = omega (arith, fits, e, f.some, f.most) in
      rw (planes-zero h f, pixels, some) refl

  pub unlike-zero : eqb (unlike h w) 0 ≡ sound h
  unlike-zero = go (sound h) refl
    where
      go : (t : Bool) → sound h ≡ t → eqb (unlike h w) 0 ≡ t
      go true s = eq-eqb _ 0 (sound-zero (sound-facts h s))
      go false s = ne_eqb _ 0 (λ z. true≢false (sym (zero-sound z) ∙ s))

-- where the lengths are sound the picture's is the bound of a place
module _ (h : Shape) (e : sound h ≡ true) (j : ℕ) where
  pub place_in : j < h.picture → 0 ≡ place_number h j
  unfolding place_number
  place_in l = simp (e, lt-ltb j (8 * h.p0) (omega (arith, (sound-facts h e).eightfold)))

  pub place_out : h.picture ≤ j → 5 ≡ place_number h j
  unfolding place_number
  place_out l = simp (e, le-ltb j (8 * h.p0) (omega (arith, (sound-facts h e).eightfold)))
