use Rattle.std.proofs.Common.{◌++◌, take, rules}
use Rattle.tg_talk.proofs.KnownBytesLemmas.{Appends-more, moves_front}
use Rattle.tg_talk.proofs.write_line.send_line.Goals as goal

pub loop-rest-preserved : goal.loop-rest-preserved
loop-rest-preserved g c =
    let (done, split, before, appended) = c.loop-rest.invariant in
    let rest = c.loop-rest.rest.now in
    let n = c.send_some-taken.result in
    (done ++ take n rest, moves_front _ done rest n split, c.send_some-taken.ensures.taken (search rules), Appends-more _ _ _ _ _ appended c.send_some-taken.ensures.appended)
