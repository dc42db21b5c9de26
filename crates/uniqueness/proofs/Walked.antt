-- `consume_pdo_payload` and `consume_by_value` lend a slice of records, and `read_part` returns a part of what was lent. Of each, here is the claim
-- in full, equal to the contract that Rattle reads off the source, and that it leaves one outcome; of the first two also that the plain reading
-- that Rattle makes of the contract does, as of the calls in Unique.antt. Assumes nothing.
use Rattle.std.specs.Prelude.{Result, ℕ}
use Rattle.answers.specs.declared.Refusal.{Refusal}
use mathlib.Core.Path.{◌≡◌, refl, ◌∙◌, sym}
use mathlib.Core.List.{List}
use contract.Lifetimes.{Lfts}
use denote.Triple.Entry.{Args, Res}
use denote.Triple.Clauses.{Lasts, at_exit}
use Rattle.entry.specs.Table.{dict}
use Rattle.entry.specs.Put.{contents}
use Rattle.event.specs.declared.EventRecord.{EventRecord}
use Rattle.events.specs.declared.Heard.{Heard}
use Rattle.events.specs.Receive.{Received, received, received_of}
use Rattle.od.specs.Read.{read_of, part_in}
use Rattle.od.specs.contracts.read_part as read-part
use Rattle.events.specs.contracts.consume_pdo_payload as consume
use Rattle.events.specs.contracts.consume_by_value as by_value
use Rattle.events.proofs.consume_pdo_payload.Reads as consume-reads
use Rattle.events.proofs.consume_pdo_payload.Kinds as consume-kinds
use Rattle.events.proofs.consume_by_value.Reads as by_value-reads
use Rattle.events.proofs.consume_by_value.Kinds as by_value-kinds
use Rattle.uniqueness.specs.Promises.{Unique, Contract, AsksNothing, Claim, SaysJust, OneOutcome}
use Rattle.uniqueness.proofs.Unique.{both}

-- ---- consume_pdo_payload
abbrev pub consume_contract : Contract consume.ended
consume_contract M 𝓤 𝓛 = consume.clauses 𝓛

abbrev pub consume_claim : Claim consume.ended
consume_claim κs a r e =
    received r (contents e.1.1.0.now e.1.1.1.0.now) e.1.1.1.1.1.1.1.1.0.now
    ≡ received_of (dict a.0.now a.1.0.now a.1.1.0.now a.1.1.1.0.now) a.1.1.1.1.0.now a.1.1.1.1.1.0 a.1.1.1.1.1.1.0 a.1.1.1.1.1.1.1.0 a.1.1.1.1.1.1.1.1.0.now

pub consume_asks-nothing : AsksNothing consume.ended consume_contract
consume_asks-nothing M 𝓤 𝓛 mem run κs a g = refl

pub consume_says : SaysJust consume.ended consume_contract consume_claim
consume_says M 𝓤 𝓛 mem run κs a g r e = refl

pub consume_unique : OneOutcome consume.ended consume_claim
consume_unique κs a z₁ z₂ w₁ w₂ p q =
    both (λ (x : Received). x.answer) (λ x. (tt, (tt, (x.contents.words, (x.contents.bytes, (tt, (tt, (tt, (tt, (x.events, tt)))))))))) p q

pub consume_pdo_payload_unique : Unique 6 consume-kinds.ps consume-kinds.r consume-reads.Post
consume_pdo_payload_unique κs a z₁ z₂ w₁ w₂ p q = consume_unique κs a z₁ z₂ w₁ w₂ p q

abbrev heard : Result ℕ Refusal → List EventRecord → Heard
heard a es = record { answer = a; events = es }

-- ---- consume_by_value: the records come and go by value
abbrev pub by_value_contract : Contract by_value.ended
by_value_contract M 𝓤 𝓛 = by_value.clauses 𝓛

abbrev pub by_value_claim : Claim by_value.ended
by_value_claim κs a r e =
    received r.answer (contents e.1.1.0.now e.1.1.1.0.now) r.events
    ≡ received_of (dict a.0.now a.1.0.now a.1.1.0.now a.1.1.1.0.now) a.1.1.1.1.0.now a.1.1.1.1.1.0 a.1.1.1.1.1.1.0 a.1.1.1.1.1.1.1.0 a.1.1.1.1.1.1.1.1.0

pub by_value-asks-nothing : AsksNothing by_value.ended by_value_contract
by_value-asks-nothing M 𝓤 𝓛 mem run κs a g = refl

pub by_value_says : SaysJust by_value.ended by_value_contract by_value_claim
by_value_says M 𝓤 𝓛 mem run κs a g r e = refl

pub by_value_unique : OneOutcome by_value.ended by_value_claim
by_value_unique κs a z₁ z₂ w₁ w₂ p q =
    both (λ (x : Received). heard x.answer x.events) (λ x. (tt, (tt, (x.contents.words, (x.contents.bytes, (tt, (tt, (tt, (tt, (tt, tt)))))))))) p q

pub consume_by_value_unique : Unique 5 by_value-kinds.ps by_value-kinds.r by_value-reads.Post
consume_by_value_unique κs a z₁ z₂ w₁ w₂ p q = by_value_unique κs a z₁ z₂ w₁ w₂ p q

-- ---- read_part returns a part of what was lent: its contract determines the part's bytes, and not where they stand
abbrev pub part_contract : Contract read-part.ended
part_contract M 𝓤 𝓛 = read-part.clauses 𝓛

abbrev pub part_claim : Claim read-part.ended
part_claim κs a r e = r.now ≡ part_in a.1.1.1.0.now (read_of (dict a.0.now a.1.0.now a.1.1.0.now a.1.1.1.0.now) a.1.1.1.1.0 a.1.1.1.1.1.0)

pub part_says : SaysJust read-part.ended part_contract part_claim
part_says M 𝓤 𝓛 mem run κs a g r e = refl

pub part_unique : (κs : Lfts (read-part.ended).signature.lifetimes) (a : Args (read-part.ended).signature κs) (z₁ z₂ : Res (read-part.ended).signature κs) (w₁ w₂ : Lasts read-part.ended κs a)
    → part_claim κs a z₁ (at_exit read-part.ended κs a w₁) → part_claim κs a z₂ (at_exit read-part.ended κs a w₂) → (z₁.now ≡ z₂.now) × (w₁ ≡ w₂)
part_unique κs a z₁ z₂ w₁ w₂ p q = (p ∙ sym q, refl)
