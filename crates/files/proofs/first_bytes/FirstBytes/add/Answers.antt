use Rattle.std.specs.Prelude.{Result, Ok, Err, IsOk, OnOk}
use Rattle.files.proofs.Takes.{first_kept, rest_fits}
use Rattle.files.specs.declared.first_bytes.TheConstants.{KEPT}
use Rattle.files.proofs.first_bytes.FirstBytes.add.Goals as goal

holds_on_ok : {T E P : Type 0} (r : Result T E) → IsOk r → OnOk r P → P
holds_on_ok (Ok x) _ p = p
holds_on_ok (Err e) h _ = cc

pub returns : goal.returns
returns c =
    let xs = c.self.inside.bytes.items in
    let room = c.remaining_capacity.result in
    let count = c.min-count.result in
    let full = c.remaining_capacity.ensures in
    let least = c.min-count.ensures in
    let put = c.try_extend_from_slice in
    let ok = put.ensures.variant.1 (rest_fits KEPT room count xs c.args.piece.now full least) in
    let grown = holds_on_ok put.result ok put.ensures.ok in
    let kept = first_kept KEPT room count xs c.args.piece.now put.new.self.items full least grown in
    cc
