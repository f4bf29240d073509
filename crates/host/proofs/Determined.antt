-- What a call's contract leaves open: nothing. Two outcomes that the contract's own reading permits for one input are the same answer, the same
-- record and the same five slices. A slice lent as `&` cannot change.
use Rattle.std.proofs.Common.{sym, ap, ◌∙◌}
use contract.Lifetimes.{Lfts}
use denote.Triple.Clauses.{AtExit}
use borrow.Fn.Kinds.{Dens, ended_of}
use mathlib.Core.List.{List}
use Prim.Native.Nat.{ℕ}
use base.Fml.{GName}
use denote.Ref.{Bor}
use Rattle.machine.specs.Memory.{Memory, lent, remade_in}
use Rattle.answers.proofs.Told.{answer-is, pixel-is, clock-is, mapped-is}
use Rattle.host_records.proofs.Told.{sequencer-answer-is}
use Rattle.host_calls.specs.Hosted.{Held, held}
use Rattle.machine_types.proofs.OneAnswer.{OneAnswer, OneOutcome}
use Rattle.machine_types.proofs.Loans.{slices, slices_to_remake, both, same-slices, same-picture}
use Rattle.host.proofs.planes.iddesmar_vram_read_u8.Reads as vram-read-u8
use Rattle.host.proofs.planes.iddesmar_vram_read_u8.Kinds as vram-read-u8-kinds
use Rattle.host.proofs.planes.iddesmar_vram_peek_u8.Reads as vram-peek-u8
use Rattle.host.proofs.planes.iddesmar_vram_peek_u8.Kinds as vram-peek-u8-kinds
use Rattle.host.proofs.planes.iddesmar_vram_read_glyph.Reads as vram-read-glyph
use Rattle.host.proofs.planes.iddesmar_vram_read_glyph.Kinds as vram-read-glyph-kinds
use Rattle.host.proofs.planes.iddesmar_vram_read_linear.Reads as vram-read-linear
use Rattle.host.proofs.planes.iddesmar_vram_read_linear.Kinds as vram-read-linear-kinds
use Rattle.host.proofs.planes.iddesmar_vram_serialize_linear.Reads as vram-serialize-linear
use Rattle.host.proofs.planes.iddesmar_vram_serialize_linear.Kinds as vram-serialize-linear-kinds
use Rattle.host.proofs.planes.iddesmar_vram_write_u8.Reads as vram-write-u8
use Rattle.host.proofs.planes.iddesmar_vram_write_u8.Kinds as vram-write-u8-kinds
use Rattle.host.proofs.planes.iddesmar_vram_plane_set.Reads as vram-plane-set
use Rattle.host.proofs.planes.iddesmar_vram_plane_set.Kinds as vram-plane-set-kinds
use Rattle.host.proofs.planes.iddesmar_vram_plane_and.Reads as vram-plane-and
use Rattle.host.proofs.planes.iddesmar_vram_plane_and.Kinds as vram-plane-and-kinds
use Rattle.host.proofs.planes.iddesmar_vram_plane_or.Reads as vram-plane-or
use Rattle.host.proofs.planes.iddesmar_vram_plane_or.Kinds as vram-plane-or-kinds
use Rattle.host.proofs.planes.iddesmar_vram_deplane.Reads as vram-deplane
use Rattle.host.proofs.planes.iddesmar_vram_deplane.Kinds as vram-deplane-kinds
use Rattle.host.proofs.sequencer_ports.iddesmar_seq_new.Reads as seq-new
use Rattle.host.proofs.sequencer_ports.iddesmar_seq_new.Kinds as seq-new-kinds
use Rattle.host.proofs.sequencer_ports.iddesmar_seq_reset.Reads as seq-reset
use Rattle.host.proofs.sequencer_ports.iddesmar_seq_reset.Kinds as seq-reset-kinds
use Rattle.host.proofs.sequencer_ports.iddesmar_seq_clock.Reads as seq-clock
use Rattle.host.proofs.sequencer_ports.iddesmar_seq_clock.Kinds as seq-clock-kinds
use Rattle.host.proofs.sequencer_ports.iddesmar_seq_set_clock_change_pending.Reads as seq-set-clock-change-pending
use Rattle.host.proofs.sequencer_ports.iddesmar_seq_set_clock_change_pending.Kinds as seq-set-clock-change-pending-kinds
use Rattle.host.proofs.sequencer_ports.iddesmar_seq_poll_clock_change.Reads as seq-poll-clock-change
use Rattle.host.proofs.sequencer_ports.iddesmar_seq_poll_clock_change.Kinds as seq-poll-clock-change-kinds
use Rattle.host.proofs.sequencer_ports.iddesmar_seq_read_address.Reads as seq-read-address
use Rattle.host.proofs.sequencer_ports.iddesmar_seq_read_address.Kinds as seq-read-address-kinds
use Rattle.host.proofs.sequencer_ports.iddesmar_seq_read_data.Reads as seq-read-data
use Rattle.host.proofs.sequencer_ports.iddesmar_seq_read_data.Kinds as seq-read-data-kinds
use Rattle.host.proofs.direct.iddesmar_seq_cpu_read_u8.Reads as seq-cpu-read-u8
use Rattle.host.proofs.direct.iddesmar_seq_cpu_read_u8.Kinds as seq-cpu-read-u8-kinds
use Rattle.host.proofs.direct.iddesmar_seq_peek_u8.Reads as seq-peek-u8
use Rattle.host.proofs.direct.iddesmar_seq_peek_u8.Kinds as seq-peek-u8-kinds
use Rattle.host.proofs.direct.iddesmar_seq_gc_read_u8.Reads as seq-gc-read-u8
use Rattle.host.proofs.direct.iddesmar_seq_gc_read_u8.Kinds as seq-gc-read-u8-kinds
use Rattle.host.proofs.direct.iddesmar_seq_read_linear.Reads as seq-read-linear
use Rattle.host.proofs.direct.iddesmar_seq_read_linear.Kinds as seq-read-linear-kinds
use Rattle.host.proofs.direct.iddesmar_seq_serialize_linear.Reads as seq-serialize-linear
use Rattle.host.proofs.direct.iddesmar_seq_serialize_linear.Kinds as seq-serialize-linear-kinds
use Rattle.host.proofs.direct.iddesmar_seq_plane_set.Reads as seq-plane-set
use Rattle.host.proofs.direct.iddesmar_seq_plane_set.Kinds as seq-plane-set-kinds
use Rattle.host.proofs.direct.iddesmar_seq_plane_and.Reads as seq-plane-and
use Rattle.host.proofs.direct.iddesmar_seq_plane_and.Kinds as seq-plane-and-kinds
use Rattle.host.proofs.direct.iddesmar_seq_plane_or.Reads as seq-plane-or
use Rattle.host.proofs.direct.iddesmar_seq_plane_or.Kinds as seq-plane-or-kinds
use Rattle.machine.proofs.Injective.{answer-of, next_of}
use Rattle.host.proofs.ports.iddesmar_gc_new.Reads as gc-new
use Rattle.host.proofs.ports.iddesmar_gc_new.Kinds as gc-new-kinds
use Rattle.host.proofs.ports.iddesmar_gc_read_address.Reads as gc-read-address
use Rattle.host.proofs.ports.iddesmar_gc_read_address.Kinds as gc-read-address-kinds
use Rattle.host.proofs.ports.iddesmar_gc_read_data.Reads as gc-read-data
use Rattle.host.proofs.ports.iddesmar_gc_read_data.Kinds as gc-read-data-kinds
use Rattle.host.proofs.ports.iddesmar_gc_chain.Reads as gc-chain
use Rattle.host.proofs.ports.iddesmar_gc_chain.Kinds as gc-chain-kinds
use Rattle.host.proofs.ports.iddesmar_gc_chain4.Reads as gc-chain4
use Rattle.host.proofs.ports.iddesmar_gc_chain4.Kinds as gc-chain4-kinds
use Rattle.host.proofs.ports.iddesmar_gc_memory_map.Reads as gc-memory-map
use Rattle.host.proofs.ports.iddesmar_gc_memory_map.Kinds as gc-memory-map-kinds
use Rattle.host.proofs.ports.iddesmar_gc_odd_even.Reads as gc-odd-even
use Rattle.host.proofs.ports.iddesmar_gc_odd_even.Kinds as gc-odd-even-kinds
use Rattle.host.proofs.ports.iddesmar_gc_shift_mode.Reads as gc-shift-mode
use Rattle.host.proofs.ports.iddesmar_gc_shift_mode.Kinds as gc-shift-mode-kinds
use Rattle.host.proofs.ports.iddesmar_gc_map_address.Reads as gc-map-address
use Rattle.host.proofs.ports.iddesmar_gc_map_address.Kinds as gc-map-address-kinds
use Rattle.host.proofs.ports.iddesmar_gc_reset.Reads as gc-reset
use Rattle.host.proofs.ports.iddesmar_gc_reset.Kinds as gc-reset-kinds
use Rattle.host.proofs.ports.iddesmar_gc_write_address.Reads as gc-write-address
use Rattle.host.proofs.ports.iddesmar_gc_write_address.Kinds as gc-write-address-kinds
use Rattle.host.proofs.ports.iddesmar_gc_write_data.Reads as gc-write-data
use Rattle.host.proofs.ports.iddesmar_gc_write_data.Kinds as gc-write-data-kinds
use Rattle.host.proofs.sequencer_ports.iddesmar_seq_write_address_2.Reads as seq-write-address-2
use Rattle.host.proofs.sequencer_ports.iddesmar_seq_write_address_2.Kinds as seq-write-address-2-kinds
use Rattle.host.proofs.sequencer_ports.iddesmar_seq_write_data_2.Reads as seq-write-data-2
use Rattle.host.proofs.sequencer_ports.iddesmar_seq_write_data_2.Kinds as seq-write-data-2-kinds
use Rattle.host.proofs.access.iddesmar_gc_cpu_read_u8_2.Reads as gc-cpu-read-u8
use Rattle.host.proofs.access.iddesmar_gc_cpu_read_u8_2.Kinds as gc-cpu-read-u8-kinds
use Rattle.host.proofs.access.iddesmar_gc_cpu_write_u8_2.Reads as gc-cpu-write-u8
use Rattle.host.proofs.access.iddesmar_gc_cpu_write_u8_2.Kinds as gc-cpu-write-u8-kinds
use Rattle.host.proofs.access.iddesmar_gc_cpu_peek_u8_2.Reads as gc-cpu-peek-u8
use Rattle.host.proofs.access.iddesmar_gc_cpu_peek_u8_2.Kinds as gc-cpu-peek-u8-kinds
use Rattle.host.proofs.access.iddesmar_gc_serialize_2.Reads as gc-serialize
use Rattle.host.proofs.access.iddesmar_gc_serialize_2.Kinds as gc-serialize-kinds
use Rattle.host.proofs.access.iddesmar_gc_show_pixels_2.Reads as gc-show-pixels
use Rattle.host.proofs.access.iddesmar_gc_show_pixels_2.Kinds as gc-show-pixels-kinds

-- what a store leaves behind its five slices, by the place of the loan among what the call is handed; a write of the processor's leaves the record too.
-- Beside it, whose slices they are.
abbrev left-by-vram : (κs : Lfts 2) → AtExit (ended_of 2 vram-plane-set-kinds.ps vram-plane-set-kinds.r) κs → Memory × List GName
left-by-vram κs e = (lent e.0.now, slices e.0.now)

abbrev left-by-deplane : (κs : Lfts 3) → AtExit (ended_of 3 vram-deplane-kinds.ps vram-deplane-kinds.r) κs → Memory × (List (Bor (List ℕ)) × GName)
left-by-deplane κs e = (remade_in e.0.now, slices_to_remake e.0.now)

abbrev left-by-seq : (κs : Lfts 2) → AtExit (ended_of 2 seq-plane-set-kinds.ps seq-plane-set-kinds.r) κs → Memory × List GName
left-by-seq κs e = (lent e.1.0.now, slices e.1.0.now)

abbrev left-by-write : (κs : Lfts 4) → AtExit (ended_of 4 gc-cpu-write-u8-kinds.ps gc-cpu-write-u8-kinds.r) κs → Held × List GName
left-by-write κs e = (held e.0.now (lent e.1.1.0.now), slices e.1.1.0.now)

-- ---- memory alone

module _ (κs : Lfts 3) (a : Dens κs vram-read-u8-kinds.ps) where
  pub vram-read-u8-determined : OneAnswer (vram-read-u8.Post κs a)
  vram-read-u8-determined r r' e e' p q = answer-is r r' (answer-of p q)

module _ (κs : Lfts 3) (a : Dens κs vram-peek-u8-kinds.ps) where
  pub vram-peek-u8-determined : OneAnswer (vram-peek-u8.Post κs a)
  vram-peek-u8-determined r r' e e' p q = answer-is r r' (answer-of p q)

module _ (κs : Lfts 3) (a : Dens κs vram-read-glyph-kinds.ps) where
  pub vram-read-glyph-determined : OneAnswer (vram-read-glyph.Post κs a)
  vram-read-glyph-determined r r' e e' p q = answer-is r r' (answer-of p q)

module _ (κs : Lfts 3) (a : Dens κs vram-read-linear-kinds.ps) where
  pub vram-read-linear-determined : OneAnswer (vram-read-linear.Post κs a)
  vram-read-linear-determined r r' e e' p q = pixel-is r r' (answer-of p q)

module _ (κs : Lfts 3) (a : Dens κs vram-serialize-linear-kinds.ps) where
  pub vram-serialize-linear-determined : OneAnswer (vram-serialize-linear.Post κs a)
  vram-serialize-linear-determined r r' e e' p q = p ∙ sym q

module _ (κs : Lfts 2) (a : Dens κs vram-write-u8-kinds.ps) where
  pub vram-write-u8-determined : OneOutcome (vram-write-u8.Post κs a) (left-by-vram κs)
  vram-write-u8-determined r r' e e' p q = (p.1.0 ∙ sym q.1.0, both (p.1.1 ∙ sym q.1.1) (same-slices p.0 q.0))

module _ (κs : Lfts 2) (a : Dens κs vram-plane-set-kinds.ps) where
  pub vram-plane-set-determined : OneOutcome (vram-plane-set.Post κs a) (left-by-vram κs)
  vram-plane-set-determined r r' e e' p q = (p.1.0 ∙ sym q.1.0, both (p.1.1 ∙ sym q.1.1) (same-slices p.0 q.0))

module _ (κs : Lfts 2) (a : Dens κs vram-plane-and-kinds.ps) where
  pub vram-plane-and-determined : OneOutcome (vram-plane-and.Post κs a) (left-by-vram κs)
  vram-plane-and-determined r r' e e' p q = (p.1.0 ∙ sym q.1.0, both (p.1.1 ∙ sym q.1.1) (same-slices p.0 q.0))

module _ (κs : Lfts 2) (a : Dens κs vram-plane-or-kinds.ps) where
  pub vram-plane-or-determined : OneOutcome (vram-plane-or.Post κs a) (left-by-vram κs)
  vram-plane-or-determined r r' e e' p q = (p.1.0 ∙ sym q.1.0, both (p.1.1 ∙ sym q.1.1) (same-slices p.0 q.0))

module _ (κs : Lfts 3) (a : Dens κs vram-deplane-kinds.ps) where
  pub vram-deplane-determined : OneOutcome (vram-deplane.Post κs a) (left-by-deplane κs)
  vram-deplane-determined r r' e e' p q = (answer-is r r' (answer-of p.1 q.1), both (next_of p.1 q.1) (same-picture p.0 q.0))

-- ---- the sequencer's record

module _ (κs : Lfts 0) (a : Dens κs seq-new-kinds.ps) where
  pub seq-new-determined : OneAnswer (seq-new.Post κs a)
  seq-new-determined r r' e e' p q = p ∙ sym q

module _ (κs : Lfts 0) (a : Dens κs seq-reset-kinds.ps) where
  pub seq-reset-determined : OneAnswer (seq-reset.Post κs a)
  seq-reset-determined r r' e e' p q = sequencer-answer-is r r' p q

module _ (κs : Lfts 0) (a : Dens κs seq-clock-kinds.ps) where
  pub seq-clock-determined : OneAnswer (seq-clock.Post κs a)
  seq-clock-determined r r' e e' p q = clock-is r r' (p ∙ sym q)

module _ (κs : Lfts 0) (a : Dens κs seq-set-clock-change-pending-kinds.ps) where
  pub seq-set-clock-change-pending-determined : OneAnswer (seq-set-clock-change-pending.Post κs a)
  seq-set-clock-change-pending-determined r r' e e' p q = sequencer-answer-is r r' p q

module _ (κs : Lfts 0) (a : Dens κs seq-poll-clock-change-kinds.ps) where
  pub seq-poll-clock-change-determined : OneAnswer (seq-poll-clock-change.Post κs a)
  seq-poll-clock-change-determined r r' e e' p q = sequencer-answer-is r r' p q

module _ (κs : Lfts 0) (a : Dens κs seq-read-address-kinds.ps) where
  pub seq-read-address-determined : OneAnswer (seq-read-address.Post κs a)
  seq-read-address-determined r r' e e' p q = answer-is r r' (p ∙ sym q)

module _ (κs : Lfts 0) (a : Dens κs seq-read-data-kinds.ps) where
  pub seq-read-data-determined : OneAnswer (seq-read-data.Post κs a)
  seq-read-data-determined r r' e e' p q = answer-is r r' (p ∙ sym q)

-- ---- the sequencer's record and memory

module _ (κs : Lfts 3) (a : Dens κs seq-cpu-read-u8-kinds.ps) where
  pub seq-cpu-read-u8-determined : OneAnswer (seq-cpu-read-u8.Post κs a)
  seq-cpu-read-u8-determined r r' e e' p q = answer-is r r' (answer-of p q)

module _ (κs : Lfts 3) (a : Dens κs seq-peek-u8-kinds.ps) where
  pub seq-peek-u8-determined : OneAnswer (seq-peek-u8.Post κs a)
  seq-peek-u8-determined r r' e e' p q = answer-is r r' (answer-of p q)

module _ (κs : Lfts 3) (a : Dens κs seq-gc-read-u8-kinds.ps) where
  pub seq-gc-read-u8-determined : OneAnswer (seq-gc-read-u8.Post κs a)
  seq-gc-read-u8-determined r r' e e' p q = answer-is r r' (answer-of p q)

module _ (κs : Lfts 3) (a : Dens κs seq-read-linear-kinds.ps) where
  pub seq-read-linear-determined : OneAnswer (seq-read-linear.Post κs a)
  seq-read-linear-determined r r' e e' p q = pixel-is r r' (answer-of p q)

module _ (κs : Lfts 3) (a : Dens κs seq-serialize-linear-kinds.ps) where
  pub seq-serialize-linear-determined : OneAnswer (seq-serialize-linear.Post κs a)
  seq-serialize-linear-determined r r' e e' p q = p ∙ sym q

module _ (κs : Lfts 2) (a : Dens κs seq-plane-set-kinds.ps) where
  pub seq-plane-set-determined : OneOutcome (seq-plane-set.Post κs a) (left-by-seq κs)
  seq-plane-set-determined r r' e e' p q = (p.1.0 ∙ sym q.1.0, both (p.1.1 ∙ sym q.1.1) (same-slices p.0 q.0))

module _ (κs : Lfts 2) (a : Dens κs seq-plane-and-kinds.ps) where
  pub seq-plane-and-determined : OneOutcome (seq-plane-and.Post κs a) (left-by-seq κs)
  seq-plane-and-determined r r' e e' p q = (p.1.0 ∙ sym q.1.0, both (p.1.1 ∙ sym q.1.1) (same-slices p.0 q.0))

module _ (κs : Lfts 2) (a : Dens κs seq-plane-or-kinds.ps) where
  pub seq-plane-or-determined : OneOutcome (seq-plane-or.Post κs a) (left-by-seq κs)
  seq-plane-or-determined r r' e e' p q = (p.1.0 ∙ sym q.1.0, both (p.1.1 ∙ sym q.1.1) (same-slices p.0 q.0))

-- ---- the controller's record

module _ (κs : Lfts 0) (a : Dens κs gc-new-kinds.ps) where
  pub gc-new-determined : OneAnswer (gc-new.Post κs a)
  gc-new-determined r r' e e' p q = p ∙ sym q

module _ (κs : Lfts 0) (a : Dens κs gc-read-address-kinds.ps) where
  pub gc-read-address-determined : OneAnswer (gc-read-address.Post κs a)
  gc-read-address-determined r r' e e' p q = answer-is r r' (answer-of p q)

module _ (κs : Lfts 0) (a : Dens κs gc-read-data-kinds.ps) where
  pub gc-read-data-determined : OneAnswer (gc-read-data.Post κs a)
  gc-read-data-determined r r' e e' p q = answer-is r r' (answer-of p q)

module _ (κs : Lfts 0) (a : Dens κs gc-chain-kinds.ps) where
  pub gc-chain-determined : OneAnswer (gc-chain.Post κs a)
  gc-chain-determined r r' e e' p q = answer-is r r' (answer-of p q)

module _ (κs : Lfts 0) (a : Dens κs gc-chain4-kinds.ps) where
  pub gc-chain4-determined : OneAnswer (gc-chain4.Post κs a)
  gc-chain4-determined r r' e e' p q = answer-is r r' (answer-of p q)

module _ (κs : Lfts 0) (a : Dens κs gc-memory-map-kinds.ps) where
  pub gc-memory-map-determined : OneAnswer (gc-memory-map.Post κs a)
  gc-memory-map-determined r r' e e' p q = answer-is r r' (answer-of p q)

module _ (κs : Lfts 0) (a : Dens κs gc-odd-even-kinds.ps) where
  pub gc-odd-even-determined : OneAnswer (gc-odd-even.Post κs a)
  gc-odd-even-determined r r' e e' p q = answer-is r r' (answer-of p q)

module _ (κs : Lfts 0) (a : Dens κs gc-shift-mode-kinds.ps) where
  pub gc-shift-mode-determined : OneAnswer (gc-shift-mode.Post κs a)
  gc-shift-mode-determined r r' e e' p q = answer-is r r' (answer-of p q)

module _ (κs : Lfts 0) (a : Dens κs gc-map-address-kinds.ps) where
  pub gc-map-address-determined : OneAnswer (gc-map-address.Post κs a)
  gc-map-address-determined r r' e e' p q = mapped-is r r' (answer-of p q)

-- ---- records that are lent

module _ (κs : Lfts 1) (a : Dens κs gc-reset-kinds.ps) where
  pub gc-reset-determined : OneOutcome (gc-reset.Post κs a) (λ e. e.0.now)
  gc-reset-determined r r' e e' p q = (answer-is r r' (answer-of p q), next_of p q)

module _ (κs : Lfts 1) (a : Dens κs gc-write-address-kinds.ps) where
  pub gc-write-address-determined : OneOutcome (gc-write-address.Post κs a) (λ e. e.0.now)
  gc-write-address-determined r r' e e' p q = (answer-is r r' (answer-of p q), next_of p q)

module _ (κs : Lfts 1) (a : Dens κs gc-write-data-kinds.ps) where
  pub gc-write-data-determined : OneOutcome (gc-write-data.Post κs a) (λ e. e.0.now)
  gc-write-data-determined r r' e e' p q = (answer-is r r' (answer-of p q), next_of p q)

module _ (κs : Lfts 1) (a : Dens κs seq-write-address-2-kinds.ps) where
  pub seq-write-address-2-determined : OneOutcome (seq-write-address-2.Post κs a) (λ e. e.0.now)
  seq-write-address-2-determined r r' e e' p q = (answer-is r r' (answer-of p q), next_of p q)

module _ (κs : Lfts 1) (a : Dens κs seq-write-data-2-kinds.ps) where
  pub seq-write-data-2-determined : OneOutcome (seq-write-data-2.Post κs a) (λ e. e.0.now)
  seq-write-data-2-determined r r' e e' p q = (answer-is r r' (answer-of p q), next_of p q)

module _ (κs : Lfts 5) (a : Dens κs gc-cpu-read-u8-kinds.ps) where
  pub gc-cpu-read-u8-determined : OneOutcome (gc-cpu-read-u8.Post κs a) (λ e. e.0.now)
  gc-cpu-read-u8-determined r r' e e' p q = (answer-is r r' (answer-of p q), ap (λ (h : Held). h.gc) (next_of p q))

module _ (κs : Lfts 4) (a : Dens κs gc-cpu-write-u8-kinds.ps) where
  pub gc-cpu-write-u8-determined : OneOutcome (gc-cpu-write-u8.Post κs a) (left-by-write κs)
  gc-cpu-write-u8-determined r r' e e' p q = (p.1.0 ∙ sym q.1.0, both (p.1.1 ∙ sym q.1.1) (same-slices p.0 q.0))

module _ (κs : Lfts 5) (a : Dens κs gc-cpu-peek-u8-kinds.ps) where
  pub gc-cpu-peek-u8-determined : OneAnswer (gc-cpu-peek-u8.Post κs a)
  gc-cpu-peek-u8-determined r r' e e' p q = answer-is r r' (answer-of p q)

module _ (κs : Lfts 5) (a : Dens κs gc-serialize-kinds.ps) where
  pub gc-serialize-determined : OneAnswer (gc-serialize.Post κs a)
  gc-serialize-determined r r' e e' p q = p ∙ sym q

module _ (κs : Lfts 5) (a : Dens κs gc-show-pixels-kinds.ps) where
  pub gc-show-pixels-determined : OneAnswer (gc-show-pixels.Post κs a)
  gc-show-pixels-determined r r' e e' p q = p ∙ sym q
