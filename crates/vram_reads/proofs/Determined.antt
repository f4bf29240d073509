-- Any two answers that a call's contract permits for one input coincide. `Post` is each contract's own reading. Lent to a read, memory is at exit what it was; of a part handed back the
-- pixels are fixed, and that it is the caller's own picture follows from its lifetime.
use mathlib.Core.Path.{◌≡◌}
use contract.Lifetimes.{Lfts}
use denote.Triple.Clauses.{AtExit}
use borrow.Fn.Kinds.{Dens, ended_of}
use Rattle.machine_types.specs.declared.answer.Part.{Part}
use Rattle.machine.proofs.Injective.{answer-of, older-injective, byte-injective, pixel-injective}
use Rattle.machine_types.proofs.OneAnswer.{OneAnswer}
use Rattle.vram_reads.proofs.read_glyph.Reads as read-glyph
use Rattle.vram_reads.proofs.read_glyph.Kinds as read-glyph-kinds
use Rattle.vram_reads.proofs.peek_u8.Reads as peek-u8
use Rattle.vram_reads.proofs.peek_u8.Kinds as peek-u8-kinds
use Rattle.vram_reads.proofs.read_u8.Reads as read-u8
use Rattle.vram_reads.proofs.read_u8.Kinds as read-u8-kinds
use Rattle.vram_reads.proofs.read_linear.Reads as read-linear
use Rattle.vram_reads.proofs.read_linear.Kinds as read-linear-kinds
use Rattle.vram_reads.proofs.serialize_linear.Reads as serialize-linear
use Rattle.vram_reads.proofs.serialize_linear.Kinds as serialize-linear-kinds

module _ (κs : Lfts 3) (a : Dens κs read-glyph-kinds.ps) where
  pub read-glyph-determined : OneAnswer (read-glyph.Post κs a)
  read-glyph-determined r r' e e' p q = byte-injective r r' (answer-of p q)

module _ (κs : Lfts 3) (a : Dens κs peek-u8-kinds.ps) where
  pub peek-u8-determined : OneAnswer (peek-u8.Post κs a)
  peek-u8-determined r r' e e' p q = byte-injective r r' (answer-of p q)

module _ (κs : Lfts 3) (a : Dens κs read-u8-kinds.ps) where
  pub read-u8-determined : OneAnswer (read-u8.Post κs a)
  read-u8-determined r r' e e' p q = byte-injective r r' (answer-of p q)

module _ (κs : Lfts 3) (a : Dens κs read-linear-kinds.ps) where
  pub read-linear-determined : OneAnswer (read-linear.Post κs a)
  read-linear-determined r r' e e' p q = pixel-injective r r' (answer-of p q)

module _ (κs : Lfts 3) (a : Dens κs serialize-linear-kinds.ps) where
  pub serialize-linear-determined : (r r' : Part) (e e' : AtExit (ended_of 3 serialize-linear-kinds.ps serialize-linear-kinds.r) κs)
      → serialize-linear.Post κs a r e → serialize-linear.Post κs a r' e' → (r.answer ≡ r'.answer) × (r.pixels.now ≡ r'.pixels.now)
  serialize-linear-determined r r' e e' p q = older-injective r r' (answer-of p q)
