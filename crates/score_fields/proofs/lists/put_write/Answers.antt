use Rattle.std.proofs.Common.{◌≡◌, ◌++◌, ℕ, List, arith, ap, ◌∙◌, length, length-append}
use Rattle.score_fields.proofs.Lengths.{length-write_bytes}
use Rattle.score_fields.specs.Spelling.{key_bytes}
use Rattle.score_fields.proofs.lists.put_write.Goals as goal

pub put_eight-requires : goal.put_eight-requires
put_eight-requires c =
    let key : c.write.inside.0.0 ≡ c.args.write.now.0 = ap (λ (p : List ℕ × ℕ). p.0) c.write.view_is in
    let grown : length c.put_key.new.out.items ≡ length (c.args.out.now.items ++ key_bytes c.args.write.now.0) = ap length c.put_key.ensures.items ∙ ap (λ (k : List ℕ). length (c.args.out.now.items ++ key_bytes k)) key in
    omega (arith, grown, length-append c.args.out.now.items (key_bytes c.args.write.now.0), length-write_bytes c.args.write.now.0 c.args.write.now.1, c.requires, c.put_key.ensures.capacity, c.args.out.now.ok, c.put_key.new.out.ok)
