-- The token that some bytes begin with.
use Rattle.std.proofs.Common.{◌≡◌, ℕ, cond, eqb, List, ◌∷◌, ◌∙◌}
use Rattle.std.proofs.lemmas.Bool.{ne_eqb, cond-false}
use Rattle.text.specs.Format.{run}
use Rattle.text.specs.Items.{numeral}
use Rattle.text.specs.Tokens.{Seen, a_word, a_number, a_space, a_line, token_of}

abbrev pub choose : List ℕ → Seen
choose ds = cond (numeral ds) (a_number ds) (a_word ds)

pub head_token : (c : ℕ) (cs : List ℕ) → (c ≡ 32 → ⊥) → (c ≡ 10 → ⊥) → token_of (c ∷ cs) ≡ choose (run (c ∷ cs))
head_token c cs no32 no10 =
    cond-false (eqb c 32) a_space (cond (eqb c 10) a_line (choose (run (c ∷ cs)))) (ne_eqb c 32 no32) ∙ cond-false (eqb c 10) a_line (choose (run (c ∷ cs))) (ne_eqb c 10 no10)
