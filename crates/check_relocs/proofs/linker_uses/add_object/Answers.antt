use Rattle.std.proofs.Common.{◌≡◌, ◌∷◌, [], ap, map, ◌||◌, List, sym, ◌∙◌}
use Rattle.std.specs.List.{list_any}
use Rattle.elf_model.specs.Link.Relocation.{Relocation}
use Rattle.elf_model.specs.Link.UsedNames.{is_among, is_linker_use, uses_line}
use Rattle.elf_model.proofs.LinkerUses.{gained}
use Rattle.check_load.specs.declared.kept_relocations.KeptRelocation.{KeptRelocation}
use Rattle.check_relocs.specs.Referrers.{object_here, objects_here, relocation_here, relocations_here, symbol_here}
use Rattle.check_relocs.proofs.KnownSteps.{known_nothing}
use Rattle.check_relocs.proofs.NoUses.{no_more, object_uses_none, or_none}
use Rattle.check_relocs.proofs.linker_uses.add_object.Goals as goal

pub loop-relocation-init : goal.loop-relocation-init
loop-relocation-init c =
    let h = c.args.here.now in
    record {
      known = known_nothing (λ j u. u ≡ is_linker_use (objects_here h) (symbol_here h j)) c.in_ok-uses.uses.items c.in_ok-uses.ensures;
      gains = λ n. ap (λ (rs : List Relocation). is_among c.args.names.now n || list_any (uses_line (objects_here h) n) rs) (ap (map (relocation_here h)) c.into_iter-relocation-iterator.ensures.into_iter_gives ∙ c.relocations-relocation-items.ensures.relocations h.number);
    }

pub loop-relocation-preserved : goal.loop-relocation-preserved
loop-relocation-preserved c =
    let h = c.args.here.now in
    let old = c.loop-relocation.names in
    record {
      known = c.in_ok-add_use.ensures.kept;
      gains = λ n.
          gained (objects_here h) (relocation_here h c.in-Some.relocation ∷ []) (map (relocation_here h) c.next.new.self) old c.add_use.new.names n _
          c.in_ok-add_use.ensures.gains
          (sym (ap (λ (ks : List KeptRelocation). is_among old n || list_any (uses_line (objects_here h) n) (map (relocation_here h) ks)) c.in-Some.ensures.steps)
          ∙ c.loop-relocation.invariant.gains n);
    }

pub returns-then-has_no_use : goal.returns-then-has_no_use
returns-then-has_no_use c = λ n.
    let h = c.args.here.now in
    or_none (is_among c.args.names.now n) (list_any (uses_line (objects_here h) n) (relocations_here h))
    (object_uses_none (objects_here h) h.number (object_here h) (c.has_no_use.ensures c.if-has_no_use.true) n)

pub returns : goal.returns
returns c = λ n.
    let h = c.args.here.now in
    let names = c.loop-relocation.names in
    no_more (is_among names n)
    ∙ (sym (ap (λ (ks : List KeptRelocation). is_among names n || list_any (uses_line (objects_here h) n) (map (relocation_here h) ks)) c.in-None.ensures.steps.0)
    ∙ c.loop-relocation.invariant.gains n)
