use Rattle.std.proofs.Common.{◌∙◌, ◌&&◌, ◌||◌, List, ℕ, ap, sym, true}
use Rattle.std.specs.List.{list_any}
use Rattle.std.proofs.lemmas.Bool.{false≢true}
use Rattle.std.specs.Str.{bytes_eq}
use Rattle.command.specs.Views.{texts_of}
use Rattle.check_load.specs.Names.{defines_name, requests_name}
use Rattle.check_load.proofs.NotedNames.{not_defined, root_first}
use Rattle.check_load.proofs.names.roots.Goals as goal

pub loop-name-init : goal.loop-name-init
loop-name-init c = record {
  requested = λ n.
      root_first (list_any (λ root. bytes_eq root n) (texts_of c.args.undefined.now)) (bytes_eq c.args.entry.now n) (requests_name c.note_root.new.names n)
      (requests_name c.new-names.result n)
      (c.in_ok-note_root.ensures.requested n ∙ ap (λ (name : List ℕ). bytes_eq name n && true || requests_name c.new-names.result n) c.as_bytes.ensures.value)
      (c.new-names.ensures.requested n);
  defined = λ n.
      not_defined (bytes_eq c.as_bytes.result.now n) (defines_name c.note_root.new.names n) (defines_name c.new-names.result n)
      (c.in_ok-note_root.ensures.defined n) (c.new-names.ensures.defined n);
  woken = c.in_ok-note_root.ensures.woken (λ o q e at entry fresh asked. absurd (false≢true (sym (c.new-names.ensures.requested e.name) ∙ asked)));
}
