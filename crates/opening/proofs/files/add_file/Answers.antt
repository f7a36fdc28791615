use Rattle.std.proofs.Common.{◌∙◌, ap, sym, List, ℕ, cond, Some, None}
use Rattle.std.specs.Borrow.{Bor}
use Rattle.std.specs.Option.{option_or}
use Rattle.std.specs.Str.{bytes_eq}
use Rattle.elf_model.specs.Inputs.FileIndex.{found}
use Rattle.elf_model.proofs.FirstNamed.{first_added}
use Rattle.opening.proofs.files.add_file.Goals as goal

pub returns-in_ok-insert : goal.returns-in_ok-insert
returns-in_ok-insert c = λ n.
    let name = c.as_str-name.result.now in
    let index = c.args.index.now in
    first_added (λ (b : Bor (List ℕ)). b.now) index c.insert.new.self name c.as_slice.result (sym c.contains_key.ensures ∙ c.if-not-contains_key.true) c.in_ok-insert.ensures.updates n
    ∙ (ap (λ (v : List ℕ). option_or (found index n) (cond (bytes_eq name n) (Some v) None)) c.as_slice.ensures.value
    ∙ ap (λ (bs : List ℕ). option_or (found index n) (cond (bytes_eq bs n) (Some c.args.file.now.bytes.items) None)) c.as_str-name.ensures.value)
