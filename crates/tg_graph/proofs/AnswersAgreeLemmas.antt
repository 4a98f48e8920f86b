-- Two graphs that agree for some subjects: a command has the same reply in both, and they still agree.
use Rattle.std.proofs.Common.{◌≡◌, ℕ, ◌+◌, ◌<◌, ◌≤◌, true, refl, sym, ap, ◌∙◌, subst, arith}
use Rattle.std.specs.Ordering.{nat_cmp}
use Rattle.std.specs.FinSet as set
use Rattle.tg_rights.specs.declared.command.Command.{Command}
use Rattle.tg_graph.specs.Promise.Terms as effect
use Rattle.tg_graph.specs.Promise.Terms.{Does, terms}
use Rattle.tg_rights.specs.declared.outcome.Which.TheVariants as which
use Rattle.tg_rights.specs.declared.outcome.Outcome.{Outcome}
use Rattle.tg_rights.specs.declared.outcome.Outcome.TheVariants as outcome
use Rattle.tg_rights.specs.declared.outcome.Reply.{Reply}
use Rattle.tg_rights.specs.declared.outcome.Reply.TheVariants as reply
use Rattle.tg_graph.specs.Promise.Protection.{Protection, IsGraph, vertex, Agree, Reaches}
use Rattle.tg_graph.specs.Promise.Agreement.{SameReply, IsRepliedAlike, KeepsViewers}
use Rattle.tg_graph.specs.Promise.Rules.{Judged, PlainlyDecided, Applies, answered, done, next_graph, reply_of, is_create, is_new, last_serial}
use Rattle.tg_graph.proofs.OutcomesAgreeLemmas.{Judged-agrees, itself, reaches_on}
use Rattle.tg_graph.proofs.ProtectionLemmas.{Entitled, entitled}
use Rattle.tg_graph.proofs.ExactlyOneOutcomeLemmas.{verdict-Judged}
use Rattle.tg_graph.proofs.RepliesAgreeLemmas.{answered_alike}
use Rattle.tg_graph.proofs.VertexLemmas.{with_text-next}
use Rattle.tg_graph.proofs.PartsStayLemmas.{kept}

module _ (G H : Protection) (x : ℕ) (in_G : IsGraph G) (in_H : IsGraph H) (own : Agree G H x) where
  one : (c : Command) (o p : Outcome) → Judged G x c o → Judged H x c p → o ≡ p
  one c o p j k = verdict-Judged H x c o (Judged-agrees G H x c o own j) ∙ sym (verdict-Judged H x c p k)

  same : (a b : Reply) → a ≡ b → SameReply a b
  same a b e = subst (SameReply a) e (itself a) where
    itself : (a : Reply) → SameReply a a
    itself (reply.Created n) = tt
    itself (reply.Full w) = tt
    itself _ = refl

  replied : (e : Does) → Entitled G (Reaches G x) (reaches_on G x) x (itself G H x own) e → SameReply (answered G e) (answered H e)
  replied (effect.Makes k α name) h = tt
  replied (effect.Tells over) h = answered_alike G H x own (effect.Tells over) in_G in_H h refl
  replied (effect.Lists at) h = answered_alike G H x own (effect.Lists at) in_G in_H h refl
  replied _ h = refl

  -- what is allowed in one graph and full in the other is a create
  full_or_new : (K : Protection) (e : Does) (w : _) → is_new e ≡ true → SameReply (answered K e) (reply.Full w) × SameReply (reply.Full w) (answered K e)
  full_or_new K (effect.Makes k α name) w e = (tt, tt)
  full_or_new K _ w e = absurd (cc e)

  told_alike : (c : Command) (o p : Outcome) → PlainlyDecided G x c o → PlainlyDecided H x c p → SameReply (reply_of G x c o) (reply_of H x c p)
  told_alike c o (outcome.Full which.Slots) d e = absurd e
  told_alike c o (outcome.Full which.Cells) d e = absurd e
  told_alike c outcome.Allowed outcome.Allowed d e = replied (terms x c).does (entitled G (Reaches G x) (reaches_on G x) x (itself G H x own) c d.0)
  told_alike c outcome.Allowed (outcome.Denied rule why) d e = absurd (cc (one c outcome.Allowed (outcome.Denied rule why) d.0 e))
  told_alike c outcome.Allowed (outcome.Full which.Serials) d e = (full_or_new G (terms x c).does which.Serials e.1).0
  told_alike c (outcome.Denied rule why) outcome.Allowed d e = absurd (cc (one c (outcome.Denied rule why) outcome.Allowed d e.0))
  told_alike c (outcome.Denied rule why) (outcome.Denied rule' why') d e = ap (reply_of H x c) (one c (outcome.Denied rule why) (outcome.Denied rule' why') d e)
  told_alike c (outcome.Denied rule why) (outcome.Full which.Serials) d e = absurd (cc (one c (outcome.Denied rule why) outcome.Allowed d e.0))
  told_alike c (outcome.Full which.Serials) outcome.Allowed d e = (full_or_new H (terms x c).does which.Serials d.1).1
  told_alike c (outcome.Full which.Serials) (outcome.Denied rule why) d e = absurd (cc (one c outcome.Allowed (outcome.Denied rule why) d.0 e))
  told_alike c (outcome.Full which.Serials) (outcome.Full which.Serials) d e = tt
  told_alike c _ p d e = absurd d

-- a subject's command has the same reply in each graph that agrees for it, the new serial and fullness aside
pub replied_alike : (G K : Protection) (x : ℕ) (c : Command) (r : Reply) → IsGraph G → Applies G x c r K → IsRepliedAlike G x c r
replied_alike G K x c r in_G (o, d, is_r, is_K) = λ H L q in_H own. λ (p, e, is_q, is_L).
    subst (λ (a : Reply). SameReply a q) (sym is_r) (subst (SameReply (reply_of G x c o)) (sym is_q) (told_alike G H x in_G in_H own c o p d e))

module _ (G H : Protection) (viewers : set.FinSet nat_cmp) (x : ℕ) (in_G : IsGraph G) (in_H : IsGraph H) (next : G.next ≡ H.next) (known : set.contains viewers x ≡ true)
    (agree : (v : ℕ) → set.contains viewers v ≡ true → Agree G H v) where
  own : Agree G H x
  own = agree x known

  abbrev AreAlike : Command → Outcome → Outcome → Type 0
  AreAlike c o p = (reply_of G x c o ≡ reply_of H x c p) × ((next_graph G x c o).next ≡ (next_graph H x c p).next) × ((v : ℕ) → set.contains viewers v ≡ true → Agree (next_graph G x c o) (next_graph H x c p) v)

  only : (c : Command) (o p : Outcome) → Judged G x c o → Judged H x c p → o ≡ p
  only = one G H x in_G in_H own

  told_same : (e : Does) → Entitled G (Reaches G x) (reaches_on G x) x (itself G H x own) e → answered G e ≡ answered H e
  told_same (effect.Makes k α name) h = ap (λ n. reply.Created n) next
  told_same (effect.Tells over) h = answered_alike G H x own (effect.Tells over) in_G in_H h refl
  told_same (effect.Lists at) h = answered_alike G H x own (effect.Lists at) in_G in_H h refl
  told_same _ h = refl

  after_next : (e : Does) → (done G x e).next ≡ (done H x e).next
  after_next (effect.Makes k α name) = ap (λ n. n + 1) next
  after_next (effect.Rewrites over text) = with_text-next G over text (vertex G over) ∙ next ∙ sym (with_text-next H over text (vertex H over))
  after_next _ = next

  room : (c : Command) → (is_create x c ≡ true → G.next ≤ last_serial) → is_create x c ≡ true → last_serial < H.next → ⊥
  room c fits e past = let low : G.next ≤ last_serial = fits e in omega (arith, low, past, next)

  room_too : (c : Command) → (is_create x c ≡ true → H.next ≤ last_serial) → is_create x c ≡ true → last_serial < G.next → ⊥
  room_too c fits e past = let low : H.next ≤ last_serial = fits e in omega (arith, low, past, next)

  alike : (c : Command) (o p : Outcome) → PlainlyDecided G x c o → PlainlyDecided H x c p → AreAlike c o p
  alike c o (outcome.Full which.Slots) d e = absurd e
  alike c o (outcome.Full which.Cells) d e = absurd e
  alike c outcome.Allowed outcome.Allowed d e = (told_same (terms x c).does (entitled G (Reaches G x) (reaches_on G x) x (itself G H x own) c d.0), after_next (terms x c).does, kept G H viewers x known agree in_G c in_H next d.0)
  alike c outcome.Allowed (outcome.Denied rule why) d e = absurd (cc (only c outcome.Allowed (outcome.Denied rule why) d.0 e))
  alike c outcome.Allowed (outcome.Full which.Serials) d e = absurd (room c d.1 e.1 e.2)
  alike c (outcome.Denied rule why) outcome.Allowed d e = absurd (cc (only c (outcome.Denied rule why) outcome.Allowed d e.0))
  alike c (outcome.Denied rule why) (outcome.Denied rule' why') d e = (ap (reply_of H x c) (only c (outcome.Denied rule why) (outcome.Denied rule' why') d e), next, agree)
  alike c (outcome.Denied rule why) (outcome.Full which.Serials) d e = absurd (cc (only c (outcome.Denied rule why) outcome.Allowed d e.0))
  alike c (outcome.Full which.Serials) outcome.Allowed d e = absurd (room_too c e.1 d.1 d.2)
  alike c (outcome.Full which.Serials) (outcome.Denied rule why) d e = absurd (cc (only c outcome.Allowed (outcome.Denied rule why) d.0 e))
  alike c (outcome.Full which.Serials) (outcome.Full which.Serials) d e = (refl, next, agree)
  alike c _ p d e = absurd d

-- graphs that some subjects cannot tell apart stay so after a command of one of them, which has the same reply
pub keeps_viewers : (G K : Protection) (x : ℕ) (c : Command) (r : Reply) → IsGraph G → Applies G x c r K → KeepsViewers G x c r K
keeps_viewers G K x c r in_G (o, d, is_r, is_K) = λ H L q viewers in_H next known agree. λ (p, e, is_q, is_L).
    let both = alike G H viewers x in_G in_H next known agree c o p d e in
    rw (is_r, is_q, is_K, is_L) both
