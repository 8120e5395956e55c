use Rattle.std.proofs.Common.{◌≡◌, ◌++◌, drop, string_bytes}
use Rattle.report.specs.Lines.{each}
use Rattle.report.specs.Final.{post_text}
use Rattle.report.proofs.parts.push_posts.Given as goal

abbrev pub invariant-loop-fill : goal.invariant-loop-fill
invariant-loop-fill l = string_bytes l.out ++ each post_text l.fill-index (drop l.fill-index l.fills) ≡ string_bytes l.initial.out ++ each post_text 0 l.fills
