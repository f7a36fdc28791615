use Rattle.std.proofs.lemmas.List.Sorted.{IsPermutation-sym}
use Rattle.elf_model.specs.Link.Placement.{AreApart}
use Rattle.elf_model.proofs.PairsPermuted.{AllPairs-permutation}
use Rattle.check_places.proofs.Sweep.{AreApart-symmetric}
use Rattle.check_places.proofs.c05_placed.lie_apart.Goals as goal

pub returns : goal.returns
returns c =
    let things = c.args.things.now in
    let sorted = c.args.sorted.now in (
      λ apart. (
        c.are_within.ensures.0 c.if-not-are_within.false,
        AllPairs-permutation AreApart AreApart-symmetric sorted things (IsPermutation-sym things sorted c.requires.same) (c.are_apart.ensures.0 apart),
      ),
      λ both. c.are_apart.ensures.1 (AllPairs-permutation AreApart AreApart-symmetric things sorted c.requires.same both.1),
    )
