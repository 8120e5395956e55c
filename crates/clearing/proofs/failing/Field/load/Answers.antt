use Rattle.std.proofs.Common.{◌∙◌, arith, rules, tests}
use Rattle.std.specs.List.{zip}
use Rattle.std.proofs.lemmas.Iterator.{YieldsList-from_slice, YieldsList-from_zip, YieldsList-from_map}
use Rattle.std.proofs.lemmas.Iterator.Consumers.{YieldsList-at, sum_by_from_yields_List, fits_by_from_yields_list}
use Rattle.clearing.proofs.Plain.{load_few}
use Rattle.clearing.proofs.Loaded.{asked, zipped}
use Rattle.clearing.proofs.failing.Field.load.Goals as goal

pub sum-requires-clause-fits : goal.sum-requires-clause-fits
sum-requires-clause-fits c =
    let field = c.args.self.now in
    fits_by_from_yields_list (asked c.args.side c.args.hour.index) (zip field.blocks.now field.standing.now) _ _ (YieldsList-from_map _ (asked c.args.side c.args.hour.index) (YieldsList-at c.map.ensures.source (YieldsList-from_zip (YieldsList-from_slice {s = c.zip.result.a} field.blocks.now (cc)) (YieldsList-from_slice {s = c.zip.result.b} field.standing.now (search rules)))) c.map.ensures.closure (λ x r q k. search (rules, tests)))
    (omega (arith, zipped field.blocks.now field.standing.now c.args.side c.args.hour.index field.even, load_few field.blocks.now field.standing.now c.args.side c.args.hour.index field.few field.small))

pub returns : goal.returns
returns c =
    let field = c.args.self.now in
    sum_by_from_yields_List (asked c.args.side c.args.hour.index) (zip field.blocks.now field.standing.now) _ _ c.sum.ensures.ran (YieldsList-from_map _ (asked c.args.side c.args.hour.index) (YieldsList-at c.map.ensures.source (YieldsList-from_zip (YieldsList-from_slice {s = c.zip.result.a} field.blocks.now (cc)) (YieldsList-from_slice {s = c.zip.result.b} field.standing.now (search rules)))) c.map.ensures.closure (λ x r q k. search (rules, tests)))
    ∙ zipped field.blocks.now field.standing.now c.args.side c.args.hour.index field.even
