use Rattle.std.proofs.Common.{◌≡◌, ◌-◌, ◌<◌, length, get_or, Some, sym, ap, ◌∙◌, arith}
use Rattle.tg_wire.specs.Inner.Members.{last_count, plain_data}
use Rattle.tg_wire.proofs.MembersLemmas.{found_none, found_some, last_count-le}
use Rattle.tg_wire.proofs.members.Members.last.Goals as goal

module _ (c : goal.Then-count-eq0) where
  none : 0 ≡ last_count c.args.key c.args.self.now.list.items
  none = sym c.if-count-eq0.true ∙ c.from-count.ensures ∙ ap (λ i. get_or c.args.self.now.counts i 0) c.place.ensures ∙ c.args.self.now.lead c.args.key

pub returns-then-count-eq0 : goal.returns-then-count-eq0
returns-then-count-eq0 c = found_none c.args.key c.args.self.now.list.items (none c)

module _ (c : goal.After-deref) where
  count : c.from-count.result ≡ last_count c.args.key c.args.self.now.list.items
  count = c.from-count.ensures ∙ ap (λ i. get_or c.args.self.now.counts i 0) c.place.ensures ∙ c.args.self.now.lead c.args.key

  within : c.from-count.result - 1 < length c.deref.result.now
  within = omega (arith, count, c.if-count-eq0.false, last_count-le c.args.key c.args.self.now.list.items, ap length c.deref.ensures.0)

pub bounds-deref-count : goal.bounds-deref-count
bounds-deref-count c = within c

pub bounds-deref-count-else-count-eq0 : goal.bounds-deref-count-else-count-eq0
bounds-deref-count-else-count-eq0 c = within c

pub returns : goal.returns
returns c =
    let ms = c.args.self.now.list.items in
    let count : c.from-count.result ≡ last_count c.args.key ms = c.from-count.ensures ∙ ap (λ i. get_or c.args.self.now.counts i 0) c.place.ensures ∙ c.args.self.now.lead c.args.key in
    ap (λ l. Some (plain_data (get_or l (c.from-count.result - 1) c.index-deref-count.result).value)) c.deref.ensures.0
    ∙ found_some c.index-deref-count.result c.args.key ms c.from-count.result count (omega (arith, c.if-count-eq0.false))
