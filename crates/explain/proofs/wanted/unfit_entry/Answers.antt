use Rattle.std.proofs.Common.{ℕ, ◌+◌, ◌%◌, ◌^◌, ap}
use Rattle.elf_model.specs.Link.Relocation.{relocation_of}
use Rattle.relocate.specs.SymbolTables.{valued_object}
use Rattle.explain.proofs.wanted.unfit_entry.Goals as goal

pub returns : goal.returns
returns c =
    let v = c.args.valued.now in
    let p = c.in_ok-place.place in
    let same = c.requires.same in
    let placed = c.requires.placed in
    record {
      o = valued_object v;
      there = c.in_ok-place.ensures.there;
      at = c.reached.ensures;
      stands = record {
        r = relocation_of v.number (valued_object v) p.section p.entry;
        at = c.in_ok-place.ensures.kept;
        is_value = rw (placed, same) at c.wanted_value-value.ensures;
        is_address = ap (λ (n : ℕ). (n + p.entry.r_offset) % 2 ^ 64) (rw placed at c.address_or_none-at.ensures);
        wrong = rw (placed, same) at c.in-None.ensures;
      };
    }
