use Rattle.std.proofs.Common.{◌≡◌, ◌∷◌, ◌∙◌, [], ap, map}
use Rattle.elf_model.specs.Link.Slots.{names_got}
use Rattle.check_relocs.specs.KnownSlots.{IsNoted, request_here, rows_here}
use Rattle.check_relocs.specs.Referrers.{objects_here, relocation_here, relocations_here, symbol_here}
use Rattle.check_relocs.proofs.KnownSteps.{known_nothing}
use Rattle.check_relocs.proofs.NeedSteps.{gaining_all, gaining_end, gaining_more}
use Rattle.check_relocs.proofs.needs.add_object.Goals as goal

pub loop-relocation-init : goal.loop-relocation-init
loop-relocation-init c =
    let h = c.args.here.now in
    let n = c.args.needs.now in
    record {
      known = record {
        named = known_nothing (λ j u. u ≡ names_got (objects_here h) (symbol_here h j)) c.in_ok-known.known.named.items c.in_ok-known.ensures.named;
        asked = known_nothing (λ j t. IsNoted (rows_here h) n.unserved n.asked.items (request_here h j t)) c.in_ok-known.known.asked.items c.in_ok-known.ensures.asked;
        size = c.requires;
      };
      gaining = gaining_all (objects_here h) (rows_here h) (relocations_here h) n (map (relocation_here h) c.into_iter-relocation-iterator.result)
          (ap (map (relocation_here h)) c.into_iter-relocation-iterator.ensures.into_iter_gives ∙ c.relocations-relocation-items.ensures.relocations h.number);
    }

pub loop-relocation-preserved : goal.loop-relocation-preserved
loop-relocation-preserved c =
    let h = c.args.here.now in
    record {
      known = c.add_relocation.ensures.kept;
      gaining = gaining_more (objects_here h) (rows_here h) (relocations_here h) c.args.needs.now (map (relocation_here h) c.loop-relocation.relocation-iterator)
          (relocation_here h c.in-Some.relocation ∷ []) (map (relocation_here h) c.next.new.self) c.loop-relocation.needs c.add_relocation.new.needs
          (ap (map (relocation_here h)) c.in-Some.ensures.steps) c.add_relocation.ensures.gained c.loop-relocation.invariant.gaining;
    }

pub returns : goal.returns
returns c =
    let h = c.args.here.now in
    gaining_end (objects_here h) (rows_here h) (relocations_here h) c.args.needs.now (map (relocation_here h) c.loop-relocation.relocation-iterator) c.loop-relocation.needs
    (ap (map (relocation_here h)) c.in-None.ensures.steps.0) c.loop-relocation.invariant.gaining
