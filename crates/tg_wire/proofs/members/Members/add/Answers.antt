use Rattle.std.proofs.Common.{◌≡◌, ◌∷◌, ◌++◌, [], ◌<◌, suc, length, set, bit_or, sym, subst, arith}
use Rattle.tg_wire.specs.Inner.Keys.{key_bit, key_place}
use Rattle.tg_wire.specs.Inner.Members.{AreInSet, LeadToLast}
use Rattle.tg_wire.proofs.MembersLemmas.{are_in_more, lead_more, place_below}
use Rattle.tg_wire.proofs.members.Members.add.Goals as goal

pub invariant_of-self : goal.invariant_of-self
invariant_of-self c =
    let counts = c.args.self.now.counts in
    let ms = c.args.self.now.list.items in
    let m = c.args.member in
    let within : key_place m.key < length counts = omega (arith, place_below m.key) in
    let count : suc (length ms) ≡ c.len.result = omega (arith, c.len.ensures.value, c.push.ensures.len) in
    let counted = subst (λ n. LeadToLast (set counts (key_place m.key) n) (ms ++ m ∷ [])) count (lead_more counts ms m within c.args.self.now.lead) in
    let placed = subst (λ i. LeadToLast (set counts i c.len.result) (ms ++ m ∷ [])) (sym c.place.ensures) counted in
    record {
      lead = subst (LeadToLast (set counts c.place.result c.len.result)) (sym c.push.ensures.items) placed;
      are_in = subst (λ b. AreInSet (bit_or c.args.self.now.keys b) c.push.new.self.items) (sym c.bit.ensures)
          (subst (AreInSet (bit_or c.args.self.now.keys (key_bit m.key))) (sym c.push.ensures.items) (are_in_more c.args.self.now.keys ms m c.args.self.now.are_in));
    }
