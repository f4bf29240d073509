-- Any two outcomes that a function's contract permits for one input coincide. `Post` is each contract's own reading.
use mathlib.Core.Path.{refl, sym, ◌∙◌}
use mir.Syntax.{Dict}
use contract.Lifetimes.{Lfts}
use denote.RattleType.{RattleType}
use denote.Param.Laws.{Laws, IsCopy}
use borrow.Fn.Kinds.{Dens}
use Rattle.machine_types.proofs.OneAnswer.{OneAnswer, OneOutcome}
use Rattle.std.specs.declared.clone.Clone as clone
use Rattle.answers.specs.declared.narrow.AsByte as as-byte
use Rattle.host_records.proofs.Told.{sequencer-answer-is, controller-answer-is, counter-told-apart, counter-apart}
use Rattle.host_records.proofs.record.known_controller.Reads as known-controller
use Rattle.host_records.proofs.record.known_controller.Kinds as known-controller-kinds
use Rattle.host_records.proofs.record.known_sequencer.Reads as known-sequencer
use Rattle.host_records.proofs.record.known_sequencer.Kinds as known-sequencer-kinds
use Rattle.host_records.proofs.record.known.Reads as known
use Rattle.host_records.proofs.record.known.Kinds as known-kinds
use Rattle.host_records.proofs.record.is_set.Reads as is-set
use Rattle.host_records.proofs.record.is_set.Kinds as is-set-kinds
use Rattle.host_records.proofs.record.GraphicsControllerStatsFromStatsRecord.from.Reads as to-stats
use Rattle.host_records.proofs.record.GraphicsControllerStatsFromStatsRecord.from.Kinds as to-stats-kinds
use Rattle.host_records.proofs.record.StatsRecordFromGraphicsControllerStats.from.Reads as of-stats
use Rattle.host_records.proofs.record.StatsRecordFromGraphicsControllerStats.from.Kinds as of-stats-kinds
use Rattle.host_records.proofs.record.GraphicsControllerFromControllerRecord.from.Reads as to-controller
use Rattle.host_records.proofs.record.GraphicsControllerFromControllerRecord.from.Kinds as to-controller-kinds
use Rattle.host_records.proofs.record.ControllerRecord.of.Reads as of-controller
use Rattle.host_records.proofs.record.ControllerRecord.of.Kinds as of-controller-kinds
use Rattle.host_records.proofs.record.SequencerFromSequencerRecord.from.Reads as to-sequencer
use Rattle.host_records.proofs.record.SequencerFromSequencerRecord.from.Kinds as to-sequencer-kinds
use Rattle.host_records.proofs.record.SequencerRecordFromSequencer.from.Reads as of-sequencer
use Rattle.host_records.proofs.record.SequencerRecordFromSequencer.from.Kinds as of-sequencer-kinds
use Rattle.host_records.proofs.record.ControllerRecord.meant.Reads as controller-meant
use Rattle.host_records.proofs.record.ControllerRecord.meant.Kinds as controller-meant-kinds
use Rattle.host_records.proofs.record.SequencerRecord.meant.Reads as sequencer-meant
use Rattle.host_records.proofs.record.SequencerRecord.meant.Kinds as sequencer-meant-kinds
use Rattle.host_records.proofs.record.ControllerRecord.count.Reads as count
use Rattle.host_records.proofs.record.ControllerRecord.count.Kinds as count-kinds
use Rattle.host_records.proofs.record.ControllerRecord.store.Reads as store
use Rattle.host_records.proofs.record.ControllerRecord.store.Kinds as store-kinds
use Rattle.host_records.proofs.left.unknown_sequencer.Reads as unknown-sequencer
use Rattle.host_records.proofs.left.unknown_sequencer.Kinds as unknown-sequencer-kinds
use Rattle.host_records.proofs.left.of_sequencer_left.Reads as of-sequencer-left
use Rattle.host_records.proofs.left.of_sequencer_left.Kinds as of-sequencer-left-kinds
use Rattle.host_records.proofs.left.unknown_controller.Reads as unknown-controller
use Rattle.host_records.proofs.left.unknown_controller.Kinds as unknown-controller-kinds
use Rattle.host_records.proofs.left.of_graphics_left.Reads as of-graphics-left
use Rattle.host_records.proofs.left.of_graphics_left.Kinds as of-graphics-left-kinds
use Rattle.host_records.proofs.counter.CounterFromWriteMode.from.Reads as counter-of-write
use Rattle.host_records.proofs.counter.CounterFromWriteMode.from.Kinds as counter-of-write-kinds
use Rattle.host_records.proofs.counter.CounterFromReadMode.from.Reads as counter-of-read
use Rattle.host_records.proofs.counter.CounterFromReadMode.from.Kinds as counter-of-read-kinds
use Rattle.host_records.proofs.counter.Counter.of.Reads as counter-of
use Rattle.host_records.proofs.counter.Counter.of.Kinds as counter-of-kinds

-- ---- records

module _ (κs : Lfts 0) (a : Dens κs known-controller-kinds.ps) where
  pub known-controller-determined : OneAnswer (known-controller.Post κs a)
  known-controller-determined r r' e e' p q = p ∙ sym q

module _ (κs : Lfts 0) (a : Dens κs known-sequencer-kinds.ps) where
  pub known-sequencer-determined : OneAnswer (known-sequencer.Post κs a)
  known-sequencer-determined r r' e e' p q = p ∙ sym q

module _ (κs : Lfts 0) (a : Dens κs known-kinds.ps) where
  pub known-determined : OneAnswer (known.Post κs a)
  known-determined r r' e e' p q = p ∙ sym q

module _ (κs : Lfts 0) (a : Dens κs is-set-kinds.ps) where
  pub is-set-determined : OneAnswer (is-set.Post κs a)
  is-set-determined r r' e e' p q = p ∙ sym q

module _ (κs : Lfts 0) (a : Dens κs to-stats-kinds.ps) where
  pub to-stats-determined : OneAnswer (to-stats.Post κs a)
  to-stats-determined r r' e e' p q = p ∙ sym q

module _ (κs : Lfts 0) (a : Dens κs of-stats-kinds.ps) where
  pub of-stats-determined : OneAnswer (of-stats.Post κs a)
  of-stats-determined r r' e e' p q = p ∙ sym q

module _ (κs : Lfts 0) (a : Dens κs to-controller-kinds.ps) where
  pub to-controller-determined : OneAnswer (to-controller.Post κs a)
  to-controller-determined r r' e e' p q = p ∙ sym q

module _ (κs : Lfts 0) (a : Dens κs of-controller-kinds.ps) where
  pub of-controller-determined : OneAnswer (of-controller.Post κs a)
  of-controller-determined r r' e e' p q = p ∙ sym q

module _ (κs : Lfts 0) (a : Dens κs to-sequencer-kinds.ps) where
  pub to-sequencer-determined : OneAnswer (to-sequencer.Post κs a)
  to-sequencer-determined r r' e e' p q = p ∙ sym q

module _ (κs : Lfts 0) (a : Dens κs of-sequencer-kinds.ps) where
  pub of-sequencer-determined : OneAnswer (of-sequencer.Post κs a)
  of-sequencer-determined r r' e e' p q = p ∙ sym q

module _ (κs : Lfts 0) (a : Dens κs controller-meant-kinds.ps) where
  pub controller-meant-determined : OneAnswer (controller-meant.Post κs a)
  controller-meant-determined r r' e e' p q = p ∙ sym q

module _ (κs : Lfts 0) (a : Dens κs sequencer-meant-kinds.ps) where
  pub sequencer-meant-determined : OneAnswer (sequencer-meant.Post κs a)
  sequencer-meant-determined r r' e e' p q = p ∙ sym q

module _ (κs : Lfts 1) (a : Dens κs count-kinds.ps) where
  pub count-determined : OneOutcome (count.Post κs a) (λ e. e.0.now)
  count-determined r r' e e' p q = (refl, p ∙ sym q)

module _ (κs : Lfts 1) (a : Dens κs store-kinds.ps) where
  pub store-determined : OneOutcome (store.Post κs a) (λ e. e.0.now)
  store-determined r r' e e' p q = (refl, p ∙ sym q)

-- ---- answers with what is left

module _ (κs : Lfts 0) (a : Dens κs unknown-sequencer-kinds.ps) where
  pub unknown-sequencer-determined : OneAnswer (unknown-sequencer.Post κs a)
  unknown-sequencer-determined r r' e e' p q = sequencer-answer-is r r' p q

module _ (T : RattleType) (laws : Laws T) (told : as-byte.Ghosts T.Denot) (code : Dict) (κs : Lfts 1) (a : Dens κs (of-sequencer-left-kinds.ps T laws)) where
  pub of-sequencer-left-determined : OneAnswer (of-sequencer-left.Post T laws told code κs a)
  of-sequencer-left-determined r r' e e' p q = sequencer-answer-is r r' p q

module _ (κs : Lfts 0) (a : Dens κs unknown-controller-kinds.ps) where
  pub unknown-controller-determined : OneAnswer (unknown-controller.Post κs a)
  unknown-controller-determined r r' e e' p q = controller-answer-is r r' p q

module _ (T : RattleType) (laws : Laws T) (told : as-byte.Ghosts T.Denot) (code : Dict) (κs : Lfts 1) (a : Dens κs (of-graphics-left-kinds.ps T laws)) where
  pub of-graphics-left-determined : OneAnswer (of-graphics-left.Post T laws told code κs a)
  of-graphics-left-determined r r' e e' p q = controller-answer-is r r' p q

-- ---- which counter goes up

module _ (κs : Lfts 0) (a : Dens κs counter-of-write-kinds.ps) where
  pub counter-of-write-determined : OneAnswer (counter-of-write.Post κs a)
  counter-of-write-determined r r' e e' p q = counter-apart r r' (p ∙ sym q)

module _ (κs : Lfts 0) (a : Dens κs counter-of-read-kinds.ps) where
  pub counter-of-read-determined : OneAnswer (counter-of-read.Post κs a)
  counter-of-read-determined r r' e e' p q = counter-apart r r' (p ∙ sym q)

module _ (T : RattleType) (laws : Laws T) (copied : IsCopy T) (cloned : clone.Ghosts T.Denot) (code : Dict) (κs : Lfts 1) (a : Dens κs (counter-of-kinds.ps T laws copied)) where
  pub counter-of-determined : OneAnswer (counter-of.Post T laws copied cloned code κs a)
  counter-of-determined r r' e e' p q = counter-told-apart r r' (p ∙ sym q)
