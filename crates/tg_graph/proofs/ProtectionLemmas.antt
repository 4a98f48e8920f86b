-- What an allowed command may take for granted: the ends of its edges are vertices, and its needs lead on from the
-- actor.
use Rattle.std.proofs.Common.{◌≡◌, ◌≢◌, ℕ, ◌∷◌, [], List, Bool, true, false, not, sym, ap, subst, ◌∙◌, ◌&&◌, ◌||◌, inl, inr, Some, None, arith}
use Rattle.std.proofs.lemmas.Bool.{not-true, eq-eqb}
use Rattle.std.specs.FinSet as set
use Rattle.tg_rights.specs.Promise.Letters.{Letters, Right, read, has, is_none, includes}
use Rattle.tg_rights.specs.declared.command.Command.{Command}
use Rattle.tg_graph.specs.declared.rules.Need.{Need}
use Rattle.tg_graph.specs.Promise.Terms as effect
use Rattle.tg_graph.specs.Promise.Protection.{Protection, IsGraph, IsSubject, IsVertex, IsEdge, label, IsMember, MayBeNamed}
use Rattle.tg_graph.specs.Promise.Terms.{Does, Terms, terms}
use Rattle.tg_graph.specs.Promise.Rules.{Allowed, is_met, missing, names_rights}
use Rattle.tg_graph.specs.Promise.Deciding.{LeadTo}
use Rattle.tg_graph.specs.Inner.Deciding.{AskSome, NeedsFollow, IsSubjectIfNamed}
use Rattle.tg_graph.proofs.SoundTerms.{Covers, IsNear, IsSound, WantedNear}
use Rattle.tg_graph.proofs.VertexLemmas.{IsDocument}
use Rattle.tg_graph.specs.Promise.Laws.{AllMet, IsAsWanted, Meets}
use Rattle.tg_graph.proofs.AllowedIsMetLemmas.{meets, need_met, none_missing}
use Rattle.tg_graph.proofs.DecidingLemmas.{sound}
use Rattle.tg_rights.proofs.LettersLemmas.{some_right}

-- a label that has every right of a set that is not empty is not empty
pub includes_some : (a b : Letters) → includes a b ≡ true → is_none b ≡ false → is_none a ≡ false
includes_some a b e f = some a.read a.write a.take a.grant b.read b.write b.take b.grant e f where
  some : (r w t g r' w' t' g' : Bool) → ((not r' || r) && (not w' || w) && (not t' || t) && (not g' || g)) ≡ true → (not r' && not w' && not t' && not g') ≡ false →
      (not r && not w && not t && not g) ≡ false
  some r w t g r' w' t' g' e f = grind arith

module _ (G : Protection) (g : IsGraph G) (x y : ℕ) where
  member : (r : Right) → has (label G x y) r ≡ true → set.contains G.triples (record { from = x; right = r; to = y }) ≡ true
  unfolding label
  member read h = h
  member _ h = h

  pub edge_from : IsEdge G x y → IsVertex G x
  edge_from e = let r = some_right (label G x y) e in g.from_vertex (record { from = x; right = r.0; to = y }) (member r.0 r.1)

  pub edge_to : IsEdge G x y → IsVertex G y
  edge_to e = let r = some_right (label G x y) e in g.to_vertex (record { from = x; right = r.0; to = y }) (member r.0 r.1)

-- Known vertices, from which edges lead to known ones; x is one
module _ (G : Protection) (Known : ℕ → Type 0) (step : (v z : ℕ) → Known v → IsEdge G v z → Known z) (x : ℕ) (x_known : Known x) where
  goes : (n : Need) → Known n.from → is_none n.rights ≡ false → is_met G n ≡ true → Known n.to
  goes n k some met = step n.from n.to k (includes_some (label G n.from n.to) n.rights met some)

  pub led : (ns : List Need) → NeedsFollow x ns → AskSome ns → missing G ns ≡ None → (v : ℕ) → LeadTo ns v → Known v
  led [] follows some met v h = absurd h
  led (n ∷ []) follows some met v (inl is) = subst Known (sym is) (goes n (subst Known (sym follows) x_known) some.0 (need_met G n [] met).0)
  led (n ∷ []) follows some met v (inr h) = absurd h
  led (n ∷ m ∷ []) follows some met v (inl is) = subst Known (sym is) (goes n (subst Known (sym follows.0) x_known) some.0 (need_met G n (m ∷ []) met).0)
  led (n ∷ m ∷ []) follows some met v (inr (inl is)) =
      let both = need_met G n (m ∷ []) met in
      let near : Known n.to = goes n (subst Known (sym follows.0) x_known) some.0 both.0 in
      let from : Known m.from = elim follows.1 [ inl at ↦ subst Known (sym at) x_known | inr at ↦ subst Known (sym at) near ] in
      subst Known (sym is) (goes m from some.1.0 (need_met G m [] both.1).0)
  led (n ∷ m ∷ []) follows some met v (inr (inr h)) = absurd h
  led (n ∷ m ∷ o ∷ ns) follows some met v h = absurd follows

  -- what each effect of an allowed command may take for granted
  abbrev pub Entitled : Does → Type 0
  Entitled (effect.Joins from α to) = Known from × Known to × (from ≢ to) × (is_none α ≡ false)
  Entitled (effect.Makes k α name) = (is_none α ≡ false) × IsSubjectIfNamed k name × MayBeNamed G.names name
  Entitled (effect.Drops α over) = (includes (label G x over) α ≡ true) × (is_none α ≡ false)
  Entitled (effect.Rewrites over text) = Known over × IsDocument G over
  Entitled (effect.Tells over) = Known over
  Entitled (effect.Lists at) = Known at
  Entitled effect.Retires = IsMember G.names x
  Entitled (effect.Acts None) = Unit {0}
  Entitled (effect.Acts (Some agent)) = Known agent × IsSubject G agent

  entitled_by : (t : Terms) → IsSound x t → Meets G x t → (e : Does) → Covers x t e → Entitled e
  entitled_by t s p e covers = by e covers where
    at : (v : ℕ) → LeadTo t.needs v → Known v
    at = led t.needs s.follows (s.some p.named) (none_missing G t.needs p.met)

    near : (v : ℕ) → IsNear x t.needs v → Known v
    near v (inl is) = subst Known (sym is) x_known
    near v (inr h) = at v h

    some : (α : Letters) → t.names ≡ Some α → is_none α ≡ false
    some α is = not-true _ (sym (ap names_rights is) ∙ p.named)

    by : (e : Does) → Covers x t e → Entitled e
    by (effect.Joins from α to) c = (near from c.0, at to c.1, λ is. absurd (cc (c.3 p.apart, eq-eqb from to is)), some α c.2)
    by (effect.Makes k α name) c = (some α c.0, c.2, subst (MayBeNamed G.names) c.1 p.name)
    by (effect.Drops α over) c = ((subst (AllMet G) c.1 p.met).0, some α c.0)
    by (effect.Rewrites over text) c = (
      at over (subst (WantedNear t.needs) c s.wants),
      subst (IsAsWanted G) c p.wants,
    )
    by (effect.Tells over) c = at over c
    by (effect.Lists at) c = near at c
    by effect.Retires c = p.principal c
    by (effect.Acts None) c = tt
    by (effect.Acts (Some agent)) c = (
      at agent (subst (WantedNear t.needs) c s.wants),
      subst (IsAsWanted G) c p.wants,
    )

  pub entitled : (c : Command) → Allowed G x c → Entitled (terms x c).does
  entitled c a = entitled_by (terms x c) (sound x c) (meets G x c a) (terms x c).does (sound x c).covers
