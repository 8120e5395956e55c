use Rattle.std.proofs.Common.{◌≡◌, ◌≤◌, List, length, Option, ap, ◌∙◌, arith}
use Rattle.book.specs.Views.{places, sets_of}
use Rattle.clearing.specs.declared.blocks.Block.{Block}
use Rattle.clearing.specs.Blocks.{blocks_of}
use Rattle.clearing.specs.Rounds.{outcome, rounds_of}
use Rattle.clearing.specs.Clearing.{ticks, results_of}
use Rattle.clearing.proofs.Cleared.{places_length, blocks_cleared, day_cleared, stood_last, hours_priced}
use Rattle.clearing.proofs.fixing.clear.Goals as goal

pub returns : goal.returns
returns c =
    let rows = c.args.rows.now in
    let ps = places rows in
    let sets = sets_of c.args.blocks.now in
    let refs = ticks c.args.references.now in
    let bs = blocks_of sets ps in
    let r = c.settle.result in
    let rs = c.settle.new.results in
    let fs = c.settle.new.standing in
    let ms = c.settle.new.marks in
    let found = c.collect.ensures.is in
    let is : outcome fs ms r ≡ rounds_of bs (results_of ps bs refs) = c.settle.ensures.rounds ∙ ap (λ (x : List (Option Block)). rounds_of x (results_of ps x refs)) found in
    let results : rs ≡ results_of ps bs refs fs = c.settle.ensures.results ∙ ap (λ (x : List (Option Block)). results_of ps x refs fs) found in
    let short : length rows ≤ 256 = omega arith in
    let long : length ms ≡ length ps = omega (arith, places_length rows) in
    record {
      is = day_cleared ps sets refs r rs fs ms is results;
      cleared = blocks_cleared ps sets refs r rs fs ms long is results;
      priced = hours_priced rows sets c.args.references.now short c.told-references r rs ms (results ∙ ap (results_of ps bs refs) (stood_last ps sets refs r fs ms is));
    }
