-- the codes of triples and of protection graphs, by which a proof distinguishes two of them
use Rattle.std.specs.Prelude.{List, ℕ, zero, suc, ◌≡◌, refl}
use Rattle.std.specs.Coded.{Coded, code_by, coded×, coded_ℕ, coded_list}
use Rattle.std.specs.Ordering.{nat_cmp}
use Rattle.std.specs.FinMap as map
use Rattle.std.specs.FinSet as set
use Rattle.tg_rights.specs.Promise.Letters.{Right, read, write, take, grant}
use Rattle.tg_graph.specs.declared.member.Member.{Member}
use Rattle.tg_graph.specs.contracts.member.Member as member
use Rattle.tg_graph.specs.declared.vertex.Vertex.{Vertex}
use Rattle.tg_graph.specs.contracts.vertex.Vertex as vertex
use Rattle.tg_graph.specs.Promise.Protection.{Triple, Triples, right_number, Protection}

abbrev pub right_at : ℕ → Right
right_at zero = read
right_at (suc zero) = write
right_at (suc (suc zero)) = take
right_at (suc (suc (suc n))) = grant

pub right_at-place : (r : Right) → right_at (right_number r) ≡ r
right_at-place read = refl
right_at-place write = refl
right_at-place take = refl
right_at-place grant = refl

abbrev pub triple_code : Coded Triple
triple_code =
    code_by (ℕ × (ℕ × ℕ)) (coded× coded_ℕ (coded× coded_ℕ coded_ℕ)) (λ t. (t.from, (t.to, right_number t.right)))
    (λ p. record { from = p.0; right = right_at p.1.1; to = p.1.0 })
    (λ t i. record { from = t.from; right = right_at-place t.right i; to = t.to })

abbrev pub protection_code : Coded Protection
protection_code =
    code_by (map.FinMap nat_cmp Vertex × (ℕ × (Triples × (List Member × set.FinSet nat_cmp))))
    (coded× (map.code coded_ℕ vertex.the_row.coded) (coded× coded_ℕ (coded× (set.code triple_code) (coded× (coded_list member.the_row.coded) (set.code coded_ℕ)))))
    (λ G. (G.vertices, (G.next, (G.triples, (G.names, G.retired)))))
    (λ p. record { vertices = p.0; next = p.1.0; triples = p.1.1.0; names = p.1.1.1.0; retired = p.1.1.1.1 }) (λ _. refl)
