-- What the steps of a load say of the day's format.
use Rattle.std.proofs.Common.{◌≡◌, ℕ, ◌+◌, Bool, true, false, List, [], ◌∷◌, length, replicate, Ok, Err, Result, refl, ap, ◌∙◌, arith, Option, None}
use Rattle.std.proofs.lemmas.Bool.{eq-eqb, false≢true}
use Rattle.std.specs.Result.{is_err}
use Rattle.faults.specs.declared.fault.Fault.{Fault}
use Rattle.faults.specs.Answers.{wrong_length, viewed}
use Rattle.book.specs.Bids.{Asked, Place, vacant}
use Rattle.book.specs.Views.{places, sets_of}
use Rattle.book.proofs.Placed.{placed_empty}
use Rattle.book.specs.declared.entries.Entry.{Entry}
use Rattle.text.specs.declared.reader.Reader.{Reader}
use Rattle.text.specs.Format.{Outcome, got, refused, onward}
use Rattle.text.specs.Staged.{left}
use Rattle.text.specs.Tokens.{told, ahead}
use Rattle.dayfile.specs.Day.{DayText, Book, empty_places, empty_book, booked, day_text}
use Rattle.dayfile.specs.declared.opening.Opening.{Opening}
use Rattle.dayfile.specs.Views.{tick_values}
use Rattle.dayfile.specs.Loading.{book_of, Opened, opened, opened_by, head_of, right_lengths, loading, load_head, load_places}

-- a day's reading as the day that it opens
abbrev pub opening : Outcome DayText → Outcome Opened
opening o = onward o (λ d q cs. got (opened d) q cs)

-- orders that are entered are given a stamp each
given_left : (xs : List Asked) (b : Book) → (left booked b xs).given ≡ b.given + length xs
given_left [] b = omega arith
given_left (x ∷ xs) b = given_left xs (booked b x) ∙ omega arith

-- an empty table
pub places_empty : (rows : List (Option Entry)) (n : ℕ) → rows ≡ replicate n None → n ≡ 256 → places rows ≡ empty_places
unfolding empty_places
places_empty rows n e h = ap places e ∙ placed_empty n ∙ ap (λ k. replicate k vacant) h

-- a day that was opened by a reading that ended at t
module _ (n p : ℕ) (bs : List ℕ) (refs sets : List ℕ) (ps : List Place) (given : ℕ) (q : ℕ) (cs : List ℕ) (e : got (record { references = refs; sets = sets; book = book_of ps given }) q cs ≡ opening (day_text.read 0 p bs)) where
  abbrev Read : Outcome DayText → Type 0
  Read o = (got (record { references = refs; sets = sets; given = given }) q cs ≡ load_head o) × (ps ≡ load_places n o)

  day_read : Read (day_text.read 0 p bs)
  day_read = go (day_text.read 0 p bs) e
    where
      go : (o : Outcome DayText) → got (record { references = refs; sets = sets; book = book_of ps given }) q cs ≡ opening o → Read o
      go (got d r ds) k =
          let same : ◌≡◌ {A = Opened} (record { references = refs; sets = sets; book = book_of ps given }) (opened d) = cc in
          let at : q ≡ r = cc in
          let rest : cs ≡ ds = cc in
          let count : (left booked empty_book d.orders).given ≡ length d.orders = omega (arith, given_left d.orders empty_book) in
          (λ i. got (record { references = (same i).references; sets = (same i).sets; given = (ap (λ o. o.book.given) same ∙ count) i }) (at i) (rest i), ap (λ o. o.book.places) same)
      go (refused f) k = let z : ◌≡◌ {A = ℕ} 0 1 = cc in absurd (omega arith)

-- a reading that was refused
day_refused : (n p : ℕ) (bs : List ℕ) (f : Fault) → refused f ≡ opening (day_text.read 0 p bs) → (refused f ≡ load_head (day_text.read 0 p bs)) × (replicate n vacant ≡ load_places n (day_text.read 0 p bs))
day_refused n p bs f e = go (day_text.read 0 p bs) e
  where
    go : (o : Outcome DayText) → refused f ≡ opening o → (refused f ≡ load_head o) × (replicate n vacant ≡ load_places n o)
    go (got d r ds) k = let z : ◌≡◌ {A = ℕ} 0 1 = cc in absurd (omega arith)
    go (refused g) k = let same : f ≡ g = cc in (ap refused same, refl)

-- what a reading of the day is answered, and what a refused one leaves of n rows
pub day_headed : (n p : ℕ) (bs : List ℕ) (r : Result Opening Fault) (ps : List Place) (t : Reader) → told (viewed (opened_by ps) r) t ≡ opening (day_text.read 0 p bs) → told (viewed head_of r) t ≡ load_head (day_text.read 0 p bs)
day_headed n p bs (Ok o) ps t e = (day_read n p bs (tick_values o.references) (sets_of o.blocks) ps o.given t.at (ahead t) e).0
day_headed n p bs (Err f) ps t e = (day_refused n p bs f e).0

pub day_left : (n p : ℕ) (bs : List ℕ) (r : Result Opening Fault) (ps : List Place) (t : Reader) → is_err r ≡ true → told (viewed (opened_by ps) r) t ≡ opening (day_text.read 0 p bs) → replicate n vacant ≡ load_places n (day_text.read 0 p bs)
day_left n p bs (Ok o) ps t h e = absurd (false≢true h)
day_left n p bs (Err f) ps t h e = (day_refused n p bs f e).1

-- the lent tables' lengths
pub fitting : (fits : Bool) (p : ℕ) (bs : List ℕ) → fits ≡ true → day_text.read 0 p bs ≡ loading fits p bs
fitting fits p bs e = rw e

pub unfitting : (fits : Bool) (p : ℕ) (bs : List ℕ) → fits ≡ false → refused wrong_length ≡ loading fits p bs
unfitting fits p bs e = rw e

pub lengths_fit : (r h m p : ℕ) → r ≡ 256 → h ≡ 24 → m ≡ 256 → p ≡ 128 → right_lengths r h m p ≡ true
lengths_fit r h m p a b c d = rw (eq-eqb r 256 a, eq-eqb h 24 b, eq-eqb m 256 c, eq-eqb p 128 d)
