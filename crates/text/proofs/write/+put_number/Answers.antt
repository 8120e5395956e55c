use Rattle.std.proofs.Common.{◌≡◌, ◌/◌, [], ◌∷◌, ◌++◌, decimal, sym, ap, ◌∙◌, arith}
use Rattle.std.proofs.lemmas.Fmt.{decimal_digit, decimal_step}
use Rattle.text.specs.Writes.{wrote, reached}
use Rattle.text.proofs.Writings.{write_byte, write_last}
use Rattle.text.proofs.write.+put_number.Goals as goal

pub returns-then-n-lt10 : goal.returns-then-n-lt10
returns-then-n-lt10 t c =
    let n = c.args.n in
    let out = c.args.out.now in
    let d : c.last_digit.result ∷ [] ≡ decimal n = ap (λ b. b ∷ []) (omega (arith, c.last_digit.ensures, c.if-n-lt10.true)) ∙ sym (decimal_digit n c.if-n-lt10.true) in
    let w = write_byte out c.put_byte.new.out c.args.at c.put_byte.result c.last_digit.result c.put_byte.ensures.out c.put_byte.ensures.at in
    record { out = w.0 ∙ ap (wrote out c.args.at) d; at = w.1 ∙ ap (reached out c.args.at) d }

pub returns : goal.returns
returns t c =
    let n = c.args.n in
    let out = c.args.out.now in
    let b = c.last_digit-2.result in
    let d : decimal (n / 10) ++ (b ∷ []) ≡ decimal n = ap (λ b. decimal (n / 10) ++ (b ∷ [])) c.last_digit-2.ensures ∙ sym (decimal_step n c.if-n-lt10.false (omega (arith, c.ranges.n))) in
    let w = write_last out c.put_number-last.new.out c.put_byte-2.new.out c.args.at c.put_number-last.result c.put_byte-2.result (decimal (n / 10)) b c.put_number-last.ensures.out c.put_number-last.ensures.at c.put_byte-2.ensures.out c.put_byte-2.ensures.at in
    record { out = w.0 ∙ ap (wrote out c.args.at) d; at = w.1 ∙ ap (reached out c.args.at) d }
