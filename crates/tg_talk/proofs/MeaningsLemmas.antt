-- Talks in other words.
use Rattle.std.proofs.Common.{◌≡◌, ℕ, List, [], ◌∷◌, true, false, Option, Some, None, Ok, ◌⊎◌, inl, inr, refl, sym, ap, ◌∙◌}
use Rattle.tg_vault.specs.declared.event.Event.TheVariants as event
use Rattle.tg_vault.specs.declared.event.Answer.TheVariants as answer
use Rattle.tg_vault.specs.declared.event.SeatFault.{SeatFault}
use Rattle.tg_audit.specs.declared.logs.Exchange.{Exchange}
use Rattle.tg_wire.specs.Promise.Lines.{line_of}
use Rattle.tg_wire.specs.Promise.Replies.{reply_line}
use Rattle.tg_wire.specs.Promise.Answers.{answer_line}
use Rattle.tg_wire.specs.Promise.Faults.{fault_line}
use Rattle.tg_wire.specs.declared.line.Line.TheVariants.{Act}
use Rattle.tg_wire.specs.declared.fault.WireFault.TheVariants as wire
use Rattle.tg_talk.specs.Promise.Meanings.{AsksFor, TalksHaveMeanings}
use Rattle.tg_talk.specs.Promise.Talks.{LineTold, is_hello, refused, seated, not_seated, no_actor, bound, not_for_a_session, exchanged, not_entered, no_memory, seated_untold}

-- there is nothing in an empty log
nothing : {P : Type 0} (e : Exchange) (log : List Exchange) → log ≡ e ∷ [] → log ≡ [] → P
nothing e log some none = let is : [] ≡ e ∷ [] = sym none ∙ some in absurd (cc is)

told : (sits : Option ℕ) (line : List ℕ) (then : Option ℕ) (e : Exchange) (log : List Exchange) (text : List ℕ) → log ≡ e ∷ [] → LineTold sits line then log text → AsksFor line e × (text ≡ reply_line e.reply)
told sits line then e log text some (refused f read stays none is) = nothing e log some none
told sits line then e log text some (seated seat at name actor sat read has is none text_is) = nothing e log some none
told sits line then e log text some (not_seated seat at name f sat read has is none text_is) = nothing e log some none
told sits line then e log text some (no_actor asked sat read other is none text_is) = nothing e log some none
told sits line then e log text some (bound actor seat name sat read is none text_is) = nothing e log some none
told sits line then e log text some (not_for_a_session actor asked sat read other is none text_is) = nothing e log some none
told sits line then e log text some (exchanged principal actor seat command reply sat read stays entered text_is) =
    let one : record { actor = actor; command = command; reply = reply } ∷ [] ≡ e ∷ [] = sym entered ∙ some in
    let same : record { actor = actor; command = command; reply = reply } ≡ e = cc one in
    ((seat, read ∙ ap (λ (d : Exchange). Ok (Act (event.Ask seat d.command))) same), text_is ∙ ap (λ (d : Exchange). reply_line d.reply) same)
told sits line then e log text some (not_entered actor seat at command f other has sat read stays none text_is) = nothing e log some none
told sits line then e log text some (no_memory stays none text_is) = nothing e log some none
told sits line then e log text some (seated_untold seat at name actor sat read has is none text_is) = nothing e log some none

sits_then : (line : List ℕ) (then : Option ℕ) (log : List Exchange) (text : List ℕ) (x : ℕ) → then ≡ Some x → LineTold None line then log text → (text ≡ answer_line (answer.Hello x)) ⊎ (text ≡ fault_line wire.OutOfMemory)
sits_then line then log text x some (refused f read stays none is) = (let e : None ≡ Some x = sym stays ∙ some in absurd (cc e))
sits_then line then log text x some (seated seat at name actor sat read has is none text_is) =
    let e : Some actor ≡ Some x = sym is ∙ some in let same : actor ≡ x = cc e in inl (text_is ∙ ap (λ k. answer_line (answer.Hello k)) same)
sits_then line then log text x some (not_seated seat at name f sat read has is none text_is) = (let e : None ≡ Some x = sym is ∙ some in absurd (cc e))
sits_then line then log text x some (no_actor asked sat read other is none text_is) = (let e : None ≡ Some x = sym is ∙ some in absurd (cc e))
sits_then line then log text x some (bound actor seat name sat read is none text_is) = absurd (cc sat)
sits_then line then log text x some (not_for_a_session actor asked sat read other is none text_is) = absurd (cc sat)
sits_then line then log text x some (exchanged principal actor seat command reply sat read stays entered text_is) = absurd (cc sat)
sits_then line then log text x some (not_entered actor seat at command f other has sat read stays none text_is) = absurd (cc sat)
sits_then line then log text x some (no_memory stays none text_is) = inr text_is
sits_then line then log text x some (seated_untold seat at name actor sat read has is none text_is) = inr text_is

abbrev AsHello : List ℕ → Type 0
AsHello text = ((x : ℕ) × (text ≡ answer_line (answer.Hello x))) ⊎ (((f : SeatFault) × (text ≡ answer_line (answer.Seat f))) ⊎ (text ≡ fault_line wire.OutOfMemory))

answered : (line : List ℕ) (then : Option ℕ) (log : List Exchange) (text : List ℕ) (seat : ℕ) (name : List ℕ) → line_of line ≡ Ok (Act (event.Hello seat name)) → LineTold None line then log text → AsHello text
answered line then log text s n hello (refused f read stays none is) = (let e = sym read ∙ hello in absurd (cc e))
answered line then log text s n hello (seated seat at name actor sat read has is none text_is) = inl (actor, text_is)
answered line then log text s n hello (not_seated seat at name f sat read has is none text_is) = inr (inl (f, text_is))
answered line then log text s n hello (no_actor asked sat read other is none text_is) =
    let e : Ok asked ≡ Ok (Act (event.Hello s n)) = sym read ∙ hello in
    let same : asked ≡ Act (event.Hello s n) = cc e in
    let both : true ≡ false = sym (ap is_hello same) ∙ other in absurd (cc both)
answered line then log text s n hello (bound actor seat name sat read is none text_is) = absurd (cc sat)
answered line then log text s n hello (not_for_a_session actor asked sat read other is none text_is) = absurd (cc sat)
answered line then log text s n hello (exchanged principal actor seat command reply sat read stays entered text_is) = absurd (cc sat)
answered line then log text s n hello (not_entered actor seat at command f other has sat read stays none text_is) = absurd (cc sat)
answered line then log text s n hello (no_memory stays none text_is) = inr (inr text_is)
answered line then log text s n hello (seated_untold seat at name actor sat read has is none text_is) = inr (inr text_is)

pub talks_have_meanings : TalksHaveMeanings
talks_have_meanings sits then line log text = (
  record {
    told = λ e text h. told sits line then e (e ∷ []) text refl h;
    untold = λ log h. (record { actor = h.actor; command = h.command; reply = h.reply }, h.entered, (h.seat, h.read));
  },
  λ h. record {
    seated = λ x some. sits_then line then log text x some h;
    answered = λ seat name hello. answered line then log text seat name hello h;
  },
)
