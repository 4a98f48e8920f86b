-- how a connection of another protocol begins
use Rattle.std.specs.Prelude.{ℕ, Bool, List, [], ◌∷◌, codes, nat_eq}
use Rattle.std.specs.List.{list_any, starts_with}

-- a request of HTTP, a handshake of TLS, and a request of STUN or TURN
abbrev pub other_protocols : List (List ℕ)
other_protocols = codes "GET " ∷ codes "POST " ∷ codes "PUT " ∷ codes "HEAD " ∷ codes "OPTIONS " ∷ codes "DELETE "
    ∷ codes "PATCH " ∷ codes "CONNECT " ∷ codes "TRACE " ∷ codes "PRI "
    ∷ (22 ∷ 3 ∷ []) ∷ (0 ∷ 1 ∷ []) ∷ (0 ∷ 3 ∷ []) ∷ []

-- whether these bytes begin as one of them
abbrev pub begins_otherwise : List ℕ → Bool
begins_otherwise xs = list_any (λ start. starts_with nat_eq xs start) other_protocols
