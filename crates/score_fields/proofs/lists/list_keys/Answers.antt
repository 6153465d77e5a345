use Rattle.score_fields.specs.Spelling.{IsKey, AreKeys, key_bytes}
use Rattle.score_fields.specs.Reading.{first_key}
use Rattle.score_fields.proofs.Codecs.{codec_key}
use Rattle.score_fields.proofs.ListLoops.{left_next, left_shorter, left_end, no_key, key_takes_some}
use Rattle.score_fields.proofs.lists.list_keys.Goals as goal

pub loop-text-smaller : goal.loop-text-smaller
loop-text-smaller c = left_shorter IsKey AreKeys key_bytes first_key codec_key no_key key_takes_some c.loop-text.list c.loop-text.rest.now c.args.bytes.now c.in-Some.text.now c.in-Some.after.now c.loop-text.invariant c.in-Some.ensures.value

pub loop-text-preserved : goal.loop-text-preserved
loop-text-preserved c =
    let next = left_next IsKey AreKeys key_bytes first_key codec_key no_key c.loop-text.list c.loop-text.rest.now c.args.bytes.now c.in-Some.text.now c.in-Some.after.now c.loop-text.invariant c.in-Some.ensures.value in
    rw (c.in_ok-push.ensures.ok, c.in-Some-new.ensures.value) next

pub returns-clause-fits : goal.returns-clause-fits
returns-clause-fits c =
    let done = left_end IsKey AreKeys key_bytes first_key codec_key c.loop-text.list c.loop-text.rest.now c.args.bytes.now c.loop-text.invariant c.in_default-key.ensures.value in
    done.0

pub returns-clause-value : goal.returns-clause-value
returns-clause-value c =
    let done = left_end IsKey AreKeys key_bytes first_key codec_key c.loop-text.list c.loop-text.rest.now c.args.bytes.now c.loop-text.invariant c.in_default-key.ensures.value in
    done.1
