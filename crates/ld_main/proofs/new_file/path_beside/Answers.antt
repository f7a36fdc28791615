use Rattle.std.proofs.Common.{◌≡◌, ◌≤◌, ℕ, List, length, refl, sym, ◌∙◌, ap}
use Rattle.std.specs.Prelude.{IfOk, None, Option, Some, [], take}
use Rattle.std.specs.Borrow.{Bor}
use Rattle.std.specs.Option.{option_copied, unwrap_or}
use Rattle.std.specs.Path.{path_buf_bytes, path_file_name, path_with_file_name}
use Rattle.std.proofs.lemmas.Result.{IfOk-weaker}
use Rattle.ld_main.specs.NewFiles.{IsBeside, new_name}
use Rattle.ld_main.proofs.new_file.path_beside.Goals as goal

-- the path of a new file that has the first bytes of a name
beside :
    (path name front new : List ℕ) (n : ℕ) → name ≡ unwrap_or (path_file_name path) [] → take (length front) name ≡ front → length front ≤ 200 →
    new ≡ path_with_file_name path (new_name front n) → IsBeside path new
beside path name front new n is begins short e = record {
  number = n;
  kept = length front;
  short = short;
  is = e ∙ ap (λ (f : List ℕ). path_with_file_name path (new_name f n)) (sym begins ∙ ap (take (length front)) is);
}

-- a borrowed text or an empty one, as bytes
copied_or : (r : Option (Bor (List ℕ))) (d : Bor (List ℕ)) → d.now ≡ [] → (unwrap_or r d).now ≡ unwrap_or (option_copied r) []
copied_or None d empty = empty
copied_or (Some b) d empty = refl

pub returns : goal.returns
returns c =
    let name : c.unwrap_or.result.now ≡ unwrap_or (path_file_name c.args.path.now) [] =
    ap (λ (b : Bor (List ℕ)). b.now) c.unwrap_or.ensures
    ∙ (copied_or c.file_name.result _ refl ∙ ap (λ (o : Option (List ℕ)). unwrap_or o []) (c.file_name.ensures ∙ ap path_file_name c.new-path.ensures)) in
    let file : c.deref.result.now ≡ new_name c.front_of-front.result.now c.args.number = c.deref.ensures ∙ c.in_ok-name.ensures.ok in
    IfOk-weaker c.with_file_name.result _ (λ p. IsBeside c.args.path.now (path_buf_bytes p))
    (λ p is. beside c.args.path.now c.unwrap_or.result.now c.front_of-front.result.now (path_buf_bytes p) c.args.number name c.front_of-front.ensures.front
    c.front_of-front.ensures.short
    (is ∙ (ap (λ (t : List ℕ). path_with_file_name t c.deref.result.now) c.new-path.ensures ∙ ap (path_with_file_name c.args.path.now) file)))
    c.with_file_name.ensures
