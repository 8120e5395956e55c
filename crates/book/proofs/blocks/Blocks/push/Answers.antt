use Rattle.std.proofs.Common.{◌<◌, length, sym, ◌∙◌, arith}
use Rattle.book.proofs.Hourly.{all_added}
use Rattle.book.proofs.blocks.Blocks.push.Goals as goal

pub invariant_of-self : goal.invariant_of-self
invariant_of-self c =
    let room : c.args.self.now.count < length c.args.self.now.sets = omega arith in
    record { few = omega arith; proper = all_added c.args.self.now.sets c.args.self.now.count c.args.hours room c.args.self.now.proper (sym c.bad_hours.ensures ∙ c.if-bad_hours.false) }
