-- What a draft asks for, and its first refusal.
use Rattle.std.specs.Prelude.{ℕ, Bool, false, cond, List, take, Err, Result, nat_lt}
use Rattle.faults.specs.declared.fault.Fault.{Fault}
use Rattle.faults.specs.Answers.{out_of_range}
use Rattle.curves.specs.Points.{Point}
use Rattle.curves.specs.Views.{quotes}
use Rattle.curves.specs.Offers.{Form, flat, stairs, slopes}
use Rattle.book.specs.declared.drafts.Quotes.{Quotes}
use Rattle.book.specs.declared.drafts.Terms.{Terms}
use Rattle.book.specs.declared.drafts.Terms.TheVariants.{Market, Step, Linear}
use Rattle.book.specs.declared.drafts.Draft.{Draft}
use Rattle.book.specs.Bids.{Asked}
use Rattle.book.specs.Verdicts.{verdict}

-- the pairs that count
abbrev pub pairs_of : Quotes → List Point
pairs_of q = quotes (take q.count q.pairs)

abbrev pub form_of : Terms → Form
form_of (Market v) = flat v
form_of (Step q) = stairs (pairs_of q)
form_of (Linear q) = slopes (pairs_of q)

-- the count of pairs is beyond the eight that a draft has room for
abbrev pub too_many : Terms → Bool
too_many (Market v) = false
too_many (Step q) = nat_lt 8 q.count
too_many (Linear q) = nat_lt 8 q.count

unfoldable pub asked_of : Draft → Asked
asked_of d = record { row = d.row; member = d.member; product = d.product; offer = record { side = d.side; form = form_of d.terms } }

-- in a day that has n blocks
unfoldable pub draft_verdict : ℕ → Draft → Result (Unit {0}) Fault
draft_verdict n d = cond (too_many d.terms) (Err out_of_range) (verdict n (asked_of d))
