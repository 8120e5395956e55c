-- What is printed of a final day: its hours, its blocks, the shares of its rows and its post fills.
use Rattle.std.specs.Prelude.{◌≡◌, ℕ, ◌+◌, cond, ◌&&◌, List, [], ◌∷◌, ◌++◌, Ok, Err, Result, ◌==◌, slice_index}
use Rattle.faults.specs.declared.fault.Fault.{Fault}
use Rattle.faults.specs.Answers.{out_of_range, wrong_length}
use Rattle.curves.specs.Ranges.{bad_tick}
use Rattle.book.specs.Bids.{Place}
use Rattle.clearing.specs.declared.marks.Mark.{Mark}
use Rattle.clearing.specs.declared.results.HourResult.{HourResult}
use Rattle.clearing.specs.Results.{result_at}
use Rattle.clearing.specs.Clearing.{tabled}
use Rattle.clearing.specs.BlockPrice.{block_price}
use Rattle.clearing.specs.Sharing.{hour_shares}
use Rattle.posting.specs.declared.fills.Fill.{Fill}
use Rattle.posting.specs.Posts.{filled_in}
use Rattle.report.specs.declared.stops.Stop.{Stop}
use Rattle.report.specs.declared.stops.Stop.TheVariants.{Refused, Memory}
use Rattle.report.specs.Lines.{each, hour_line, block_line, share_line, post_line}

-- refused where a price is off the ladder
abbrev pub prices_refused : List HourResult → Result (Unit {0}) Fault
prices_refused [] = Ok tt
prices_refused (r ∷ rs) = cond (bad_tick r.price) (Err out_of_range) (prices_refused rs)

-- of the numbers of rows, hours, marks and post places, and then of the hours' prices
abbrev pub final_refused : ℕ → ℕ → ℕ → ℕ → List HourResult → Result (Unit {0}) Fault
final_refused rows hours marks posts results =
    cond (rows == 256 && (hours == 24 && (marks == 256 && posts == 128))) (prices_refused results) (Err wrong_length)

-- an answer but for want of memory
abbrev pub verdict_of : Result (Unit {0}) Stop → Result (Unit {0}) Fault
verdict_of (Ok _) = Ok tt
verdict_of (Err (Refused f)) = Err f
verdict_of (Err Memory) = Ok tt

-- the executed volume of an hour, from 0, and its post fills
abbrev pub hour_text : List Fill → ℕ → HourResult → List ℕ
hour_text fills h r = hour_line h r.price (r.executed + filled_in (h + 1) fills)

abbrev pub block_text : List HourResult → ℕ → ℕ → List ℕ
block_text results k hours = block_line k (block_price hours results)

-- a row's share of an hour, from 0, in which the rows have these shares
abbrev pub share_text : ℕ → ℕ → List ℕ → List ℕ
share_text row h shares = share_line row h (slice_index shares row)

-- a row's shares of each hour, whatever stands in its place
abbrev pub row_text : List (List ℕ) → ℕ → Place → List ℕ
row_text tables row place = each (share_text row) 0 tables

abbrev pub post_text : ℕ → Fill → List ℕ
post_text k f = post_line f

-- the shares of the rows in an hour, from 0
unfoldable pub shares_in : List Place → List ℕ → List Mark → List HourResult → List Fill → ℕ → List ℕ
shares_in ps sets ms results fills h = hour_shares ps sets ms h (result_at results h) (filled_in (h + 1) fills)

-- those of the day's 24 hours
abbrev pub day_shares : List Place → List ℕ → List Mark → List HourResult → List Fill → List (List ℕ)
day_shares ps sets ms results fills = tabled (shares_in ps sets ms results fills) 24

unfoldable pub final_text : List Place → List ℕ → List HourResult → List Mark → List Fill → List ℕ
final_text ps sets results ms fills =
    each (hour_text fills) 0 results
    ++ (each (block_text results) 0 sets ++ (each (row_text (day_shares ps sets ms results fills)) 0 ps ++ each post_text 0 fills))

-- a refusal prints nothing
abbrev pub Kept : Result (Unit {0}) Fault → List ℕ → List ℕ → Type 0
Kept (Ok _) before after = Unit {0}
Kept (Err f) before after = after ≡ before
