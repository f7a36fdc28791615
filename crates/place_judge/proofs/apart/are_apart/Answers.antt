use Rattle.std.proofs.Common.{List, subst, sym}
use Rattle.std.specs.Prelude.{IsPermutation}
use Rattle.std.proofs.lemmas.List.Sorted.{IsPermutation-sym}
use Rattle.elf_model.specs.Link.Placement.{AreApart}
use Rattle.elf_model.specs.declared.thing.Thing.{Thing}
use Rattle.elf_model.proofs.PairsPermuted.{AllPairs-permutation}
use Rattle.check_places.proofs.Sweep.{AreApart-symmetric}
use Rattle.place_judge.proofs.apart.are_apart.Goals as goal

pub returns : goal.returns
returns c =
    let things = c.args.things.now in
    let sorted = c.deref.result.now in
    let same = subst (λ (ts : List Thing). IsPermutation things ts) (sym c.deref.ensures.value) c.in_ok-sorted.ensures.same in (
      λ apart. AllPairs-permutation AreApart AreApart-symmetric sorted things (IsPermutation-sym things sorted same) (c.are_apart.ensures.0 apart),
      λ apart. c.are_apart.ensures.1 (AllPairs-permutation AreApart AreApart-symmetric things sorted same apart),
    )
