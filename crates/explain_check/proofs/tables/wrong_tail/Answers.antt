use Rattle.std.proofs.Common.{◌≡◌, ◌∙◌, ◌-◌, ℕ, List, ap, subst}
use Rattle.std.specs.Prelude.{IfSome}
use Rattle.std.specs.List.{slice_get}
use Rattle.elf_model.specs.Image.RightLink.{tabled_of}
use Rattle.elf_model.specs.Image.SymbolTable.{strtab_at, symtab_at}
use Rattle.explain_check.specs.Places.{IsInEntry, parts_end}
use Rattle.explain_check.proofs.tables.wrong_tail.Goals as goal

pub wrong_byte-requires-clause-there : goal.wrong_byte-requires-clause-there
wrong_byte-requires-clause-there c = c.at.ensures ∙ ap (λ (xs : List ℕ). slice_get xs c.in_ok-i.i) c.tail_of-there.ensures

pub wrong_byte-requires-clause-wanted : goal.wrong_byte-requires-clause-wanted
wrong_byte-requires-clause-wanted c =
    let s = c.args.bound.now in
    let e = c.requires.end in
    let i = c.in_ok-i.i in
    let r = c.entry_at-entry.result in
    let p = c.args.wanted.now.places in
    let bytes = c.as_slice-bytes.result.now in
    let same = c.as_slice-bytes.ensures.value ∙ c.requires.wanted.bytes_are in
    let entries : p.symtab - c.args.end ≡ symtab_at (parts_end s) - parts_end s = λ j. (c.requires.places.symtab ∙ ap symtab_at e) j - e j in
    let strings : p.strtab - c.args.end ≡ strtab_at (parts_end s) (tabled_of s) - parts_end s =
    λ j. (c.requires.places.strtab ∙ ap (λ (n : ℕ). strtab_at n (tabled_of s)) e) j - e j in record {
      told = c.requires.told;
      is_end = e;
      is_wanted = c.at-2.ensures ∙ ap (λ (xs : List ℕ). slice_get xs i) same;
      in_entry =
          subst (λ (w : List ℕ). IfSome r (IsInEntry w (symtab_at (parts_end s) - parts_end s) (strtab_at (parts_end s) (tabled_of s) - parts_end s) i)) same
          (subst (λ (n : ℕ). IfSome r (IsInEntry bytes n (strtab_at (parts_end s) (tabled_of s) - parts_end s) i)) entries
          (subst (λ (n : ℕ). IfSome r (IsInEntry bytes (p.symtab - c.args.end) n i)) strings c.entry_at-entry.ensures));
    }
