use Rattle.std.proofs.Common.{take}
use Rattle.debug_image.specs.SectionNumbers.{AreFirsts}
use Rattle.debug_image.specs.SectionViews.{section_views}
use Rattle.debug_image.proofs.section_numbers.firsts_of.Given as goal

abbrev pub invariant-loop-k : goal.invariant-loop-k
invariant-loop-k l = AreFirsts l.count (section_views (take l.k l.sections)) l.firsts
