-- The ranges of a script, one by one.
use Rattle.std.proofs.Common.{◌≡◌, ◌≤◌, true, [], ◌&&◌, nat_le, length, arith}
use Rattle.std.specs.List.{list_all}
use Rattle.std.proofs.lemmas.Bool.{and_parts}
use Rattle.std.proofs.lemmas.Bool.Decides.{nat_tests}
use Rattle.script_lang.specs.Scripts.{ScriptData, are_sound}
use Rattle.script_lang.specs.Spelling.{is_plain_op}
use Rattle.script_lang.specs.declared.limits.TheConstants.{MAX_OPS, MAX_SESSION}
use Rattle.cluster_file.specs.Spelling.{is_node, is_tx, is_script_in_range}

pub record HasRanges (s : ScriptData) : Type 0 where
  pub number : is_tx s.number ≡ true
  pub home : is_node s.home ≡ true
  pub session : nat_le s.session MAX_SESSION ≡ true
  pub least : 1 ≤ length s.ops
  pub most : length s.ops ≤ MAX_OPS
  pub plain : list_all is_plain_op s.ops ≡ true
  pub sound : are_sound [] s.ops ≡ true

pub ranges_of : (s : ScriptData) → is_script_in_range s ≡ true → HasRanges s
ranges_of s h =
    let few = nat_le s.session MAX_SESSION in
    let least = nat_le 1 (length s.ops) in
    let most = nat_le (length s.ops) MAX_OPS in
    let plain = list_all is_plain_op s.ops in
    let front = is_tx s.number && is_node s.home in
    let sixth = and_parts (front && few && least && most && plain) (are_sound [] s.ops) h in
    let fifth = and_parts (front && few && least && most) plain sixth.0 in
    let fourth = and_parts (front && few && least) most fifth.0 in
    let third = and_parts (front && few) least fourth.0 in
    let second = and_parts front few third.0 in
    let first = and_parts (is_tx s.number) (is_node s.home) second.0 in
    record {
      number = first.0;
      home = first.1;
      session = second.1;
      least = grind (arith, nat_tests, third.1);
      most = grind (arith, nat_tests, fourth.1);
      plain = fifth.1;
      sound = sixth.1;
    }
