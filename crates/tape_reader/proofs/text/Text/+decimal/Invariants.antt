-- `decimal` calls itself with a tenth of its number.
use Rattle.tape_reader.proofs.text.Text.+decimal.Given as goal

abbrev pub decreases-decimal : goal.decreases-decimal
decreases-decimal l = l.number
