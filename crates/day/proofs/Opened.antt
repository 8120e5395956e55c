-- A day that a load opens.
use Rattle.std.proofs.Common.{◌≡◌, ℕ, List, []}
use Rattle.book.specs.Bids.{Place}
use Rattle.clearing.specs.declared.marks.Mark.{Mark}
use Rattle.clearing.specs.declared.results.HourResult.{HourResult}
use Rattle.dayfile.specs.declared.opening.Opening.{Opening}
use Rattle.dayfile.specs.Day.{DayText}
use Rattle.dayfile.specs.Loading.{Head, head_of, head_in, load_head, load_places}
use Rattle.posting.specs.declared.fills.Fill.{Fill}
use Rattle.text.specs.Format.{Outcome, got, refused, onward}
use Rattle.day.specs.declared.phases.Phase.TheVariants.{Open}
use Rattle.day.specs.States.{State, no_results, no_marks}
use Rattle.day.specs.Views.{state_of, opened_day}

abbrev opened_by : Head → List Place → List HourResult → List Mark → List Fill → State
opened_by h ps rs ms fs = record { phase = Open; references = h.references; sets = h.sets; places = ps; given = h.given; results = rs; marks = ms; posts = fs }

pub opened_got : (o : Outcome DayText) (op : Opening) (q : ℕ) (cs : List ℕ) (ps : List Place) (rs : List HourResult) (ms : List Mark) (fs : List Fill)
    → got (head_of op) q cs ≡ load_head o → ps ≡ load_places 256 o → rs ≡ no_results → ms ≡ no_marks → fs ≡ []
    → got (state_of Open op ps rs ms fs) q cs ≡ onward o (λ d r ds. got (opened_day d) r ds)
opened_got (got d r ds) op q cs ps rs ms fs e p hours marks posts =
    let h : head_of op ≡ head_in d = cc in
    let at : q ≡ r = cc in
    let bytes : cs ≡ ds = cc in
    λ i. got (opened_by (h i) (p i) (hours i) (marks i) (posts i)) (at i) (bytes i)
opened_got (refused f) op q cs ps rs ms fs e p hours marks posts = absurd cc
