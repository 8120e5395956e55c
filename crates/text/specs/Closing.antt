-- What ends an item.
use Rattle.std.specs.Prelude.{ℕ, Bool, true, false}
use Rattle.text.specs.declared.close.Close.{Close}
use Rattle.text.specs.declared.close.Close.TheVariants.{Space, Line}
use Rattle.text.specs.Tokens.{Seen, a_word, a_number, a_space, a_line, an_end}

abbrev pub close_byte : Close → ℕ
close_byte Space = 32
close_byte Line = 10

abbrev pub closes : Close → Seen → Bool
closes Space (a_word w) = false
closes Space (a_number d) = false
closes Space a_space = true
closes Space a_line = false
closes Space an_end = false
closes Line (a_word w) = false
closes Line (a_number d) = false
closes Line a_space = false
closes Line a_line = true
closes Line an_end = false
