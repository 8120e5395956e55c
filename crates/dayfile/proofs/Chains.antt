-- What a reader's answer says at the exit of a `?`, and of a side.
use Rattle.std.proofs.Common.{◌≡◌, ℕ, IsErrAnd, Result}
use Rattle.std.proofs.lemmas.Result.{err_from_is_err_and}
use Rattle.faults.specs.declared.fault.Fault.{Fault}
use Rattle.faults.specs.Answers.{viewed}
use Rattle.text.specs.declared.reader.Reader.{Reader}
use Rattle.text.specs.Format.{Outcome, got, refused, onward, item}
use Rattle.text.specs.Tokens.{told, ahead}
use Rattle.text.proofs.Turns.{dressed_told}
use Rattle.dayfile.specs.declared.kinds.SideWord.{SideWord}
use Rattle.dayfile.specs.Kinds.{word_of, side_word, side_text}

-- what the exit of a `?` tells
pub viewed_err : {A B : Type 0} (f : A → B) (r : Result A Fault) (e : Fault) (s : Reader) → IsErrAnd r (λ y. y ≡ e) → told (viewed f r) s ≡ refused e
viewed_err f r e s h = let p = err_from_is_err_and r h in rw (p.1, p.2)

-- a format from that of its items
module _ (l : ℕ) (s : Reader) where
  pub side_told : (o : Outcome SideWord) → o ≡ (item side_word 32).read l s.at (ahead s) → onward o (λ w q cs. got w.side q cs) ≡ side_text.read l s.at (ahead s)
  side_told o e = dressed_told (λ w. w.side) word_of (item side_word 32) l s o e
