use Rattle.std.proofs.Common.{List, ℕ, ◌++◌, ap, ◌∙◌}
use Rattle.spread.proofs.PackFileLemmas.{turned}
use Rattle.spread.proofs.pack_file.bytes_of.Goals as goal

pub returns : goal.returns
returns c =
    let bodies = c.in_ok-bytes.bytes in
    let line = c.as_bytes-line.result.now in
    let all = c.extend_from_slice.new.self in
    record {
      behind = bodies.items;
      joined = turned bodies.items line all.items c.rotate_right.new.self.items all.len c.in_ok-extend_from_slice.ensures.items all.ok.0 c.rotate_right.ensures.items
          ∙ ap (λ (xs : List ℕ). xs ++ bodies.items) (c.as_bytes-line.ensures.value ∙ c.in_ok-line.ensures);
      pack = c.in_ok-bytes.ensures;
    }
