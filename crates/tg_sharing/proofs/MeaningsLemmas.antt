-- Answers in other words.
use Rattle.std.proofs.Common.{◌≡◌, ◌≢◌, ◌<◌, ℕ, List, [], ◌∷◌, length, inl, refl, subst, arith}
use Rattle.tg_lists.specs.Promise.Membership.{Contains}
use Rattle.tg_rights.specs.Promise.Letters.{Right}
use Rattle.tg_rights.proofs.LettersLemmas.{right_some}
use Rattle.tg_graph.specs.Promise.Derivations.{CanShare}
use Rattle.tg_graph.specs.Promise.Protection.{IsVertex, Protection, label}
use Rattle.tg_sharing.specs.Promise.Fetching.{alone}
use Rattle.tg_sharing.specs.Promise.Laws.{SharingHasMeaning}
use Rattle.tg_sharing.specs.Promise.Prospects.{IsProspect}
use Rattle.tg_sharing.specs.declared.prospect.Prospect.{Prospect}

some_vertex : (G : Protection) (vs : List ℕ) → ((v : ℕ) → Contains vs v → IsVertex G v) → 0 < length vs → (v : ℕ) × IsVertex G v
some_vertex G [] there some = absurd (omega (arith, some))
some_vertex G (v ∷ vs) there some = (v, there v (inl refl))

nothing : (G : Protection) (from y : ℕ) (r : Right) (p : Prospect) → IsProspect G from p → p.labels.items ≡ [] → IsVertex G y → y ≢ from → CanShare G (record { from = from; to = y; rights = alone r }) → ⊥
nothing G from y r p is none vertex other can =
    is.whole y r vertex other (λ has. subst (λ ls. Contains ls (y, label is.reached from y)) none ((is.labels y (label is.reached from y)).1 (vertex, right_some (label is.reached from y) r has, refl))) can

pub sharing_means : SharingHasMeaning
sharing_means G = record {
  shared = λ goal steps leads. record { steps = steps; reached = leads.0; derived = leads.1; shared = leads.2 };
  many = λ more. some_vertex G more.vertices more.there more.many;
  nobody = λ α to v asked could asks vertex. (could.whole v asks vertex).1;
  nothing = nothing G;
}
