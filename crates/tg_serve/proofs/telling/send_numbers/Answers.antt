use Rattle.std.proofs.Common.{◌≡◌, ◌∙◌, decimal}
use Rattle.tg_serve.proofs.RoundsLemmas.{sends_on}
use Rattle.tg_serve.proofs.telling.send_numbers.Goals as goal

pub returns : goal.returns
returns g c =
    let two = sends_on _ _ _ _ _ _ _ _ c.send_more.ensures c.send_more-2.ensures in
    let three = sends_on _ _ _ _ _ _ _ _ two c.send_more-3.ensures in
    let four = sends_on _ _ _ _ _ _ _ _ three c.send_more-4.ensures in
    let sent = sends_on _ _ _ _ _ _ _ _ four c.send_more-5.ensures in
    let first : c.as_bytes.result.now ≡ decimal c.args.first = c.as_bytes.ensures.value ∙ c.format.ensures.text in
    let second : c.as_bytes-2.result.now ≡ decimal c.args.second = c.as_bytes-2.ensures.value ∙ c.format-2.ensures.text in
    rw (first, second) at sent
