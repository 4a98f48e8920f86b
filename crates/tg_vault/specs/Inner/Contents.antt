-- the contents of a vault as it lies in memory, and their code
use Rattle.std.specs.Prelude.{ℕ, List, Option, refl}
use Rattle.std.specs.Coded.{Coded, code_by, coded×, coded_ℕ, coded_list, coded_option}
use Rattle.tg_graph.specs.Promise.Protection.{Protection}
use Rattle.tg_graph.specs.Promise.Fullness.{Limits}
use Rattle.tg_graph.specs.Inner.Codes.{protection_code}
use Rattle.tg_collect.specs.Promise.Stored.{Stored}
use Rattle.tg_collect.specs.contracts.store.Store as store
use Rattle.tg_vault.specs.declared.entry.Entry.{Entry}
use Rattle.tg_vault.specs.contracts.entry.Entry as entry
use Rattle.tg_vault.specs.declared.vault.Vault.TheInside.{Inside}
use Rattle.tg_graph.specs.declared.member.Member.{Member}
use Rattle.tg_graph.specs.contracts.member.Member as member
use Rattle.tg_vault.specs.Promise.Contents.{Contents}

abbrev pub limits_code : Coded Limits
limits_code = code_by (ℕ × ℕ) (coded× coded_ℕ coded_ℕ) (λ l. (l.slots, l.cells)) (λ p. record { slots = p.0; cells = p.1 }) (λ _. refl)

abbrev pub contents_code : Coded Contents
contents_code =
    code_by (Protection × (List Member × (Limits × (List (Option ℕ) × (Stored × List Entry)))))
    (coded× protection_code (coded× (coded_list member.the_row.coded) (coded× limits_code (coded× (coded_list (coded_option coded_ℕ)) (coded× store.the_row.coded (coded_list entry.the_row.coded))))))
    (λ v. (v.opening, (v.names, (v.limits, (v.seats, (v.store, v.history))))))
    (λ p. record { opening = p.0; names = p.1.0; limits = p.1.1.0; seats = p.1.1.1.0; store = p.1.1.1.1.0; history = p.1.1.1.1.1 }) (λ _. refl)

-- the contents of a vault as it lies in memory
abbrev pub contents : Inside → Contents
contents v = record {
  opening = v.opening;
  names = v.state.names;
  limits = record { slots = v.slots; cells = v.cells };
  seats = v.seats.items;
  store = v.state.store;
  history = v.history.items;
}
