-- Entries after entries, and the brackets around them.
use Rattle.std.proofs.Common.{◌≡◌, ℕ, List, [], ◌∷◌, ◌++◌, Bool, true, false, codes, map, refl, sym, ap, ◌∙◌, subst}
use Rattle.std.proofs.Common.{append_assoc, append-nil}
use Rattle.json.specs.Print.{escape_byte}
use Rattle.serde_json.specs.View.{items_of}
use Rattle.serde_json.specs.Written.{comma_if, compact_text, items_text}
use Rattle.fluent_syntax_tree.specs.Entry.{BodyTree, EntryTree}
use Rattle.fluent_syntax_grammar.specs.Sink.{Takes, Refuses, TakesBeginning}
use Rattle.fluent_syntax_grammar.specs.Writing.{Outcome, appended, stopped, silent, Appends}
use Rattle.fluent_syntax_grammar.proofs.Sinks.{Takes-append, TakesBeginning-after, TakesBeginning-before}
use Rattle.fluent_syntax_grammar.proofs.Sinks.{TakesBeginning-refused}
use Rattle.fluent_syntax_grammar.specs.declared.text_writer.TextWriter.{TextWriter}
use Rattle.fluent_syntax_json.specs.BodyWriting.{unclosed_text, later_after, HasWritten, whole, beginning}
use Rattle.fluent_syntax_json.specs.Form.{body_form, entry_form}
use Rattle.fluent_syntax_json.specs.Object.{Text}
use Rattle.fluent_syntax_json.specs.Writing.{entries_text, next_text}
use Rattle.fluent_syntax_json.specs.declared.writing.body_writer.BodyWriter.{BodyWriter}

-- ---- the text of a body

items_text-entries : (later : Bool) (body : BodyTree Text)
    → items_text later (items_of (map entry_form body)) ≡ entries_text later body ++ 93 ∷ []
items_text-entries later [] = refl
items_text-entries later (e ∷ es) =
    let form = compact_text (entry_form e) in
    ap (λ text. comma_if later ++ (form ++ text)) (items_text-entries true es)
    ∙ sym (append_assoc (comma_if later) form (entries_text true es ++ 93 ∷ []))
    ∙ sym (append_assoc (next_text later e) (entries_text true es) (93 ∷ []))

-- the text of a body is what was begun with its entries, and the brackets that close it
pub unclosed_text-closed : (body : BodyTree Text) → compact_text (body_form body) ≡ unclosed_text body ++ codes "]}"
unfolding escape_byte
unclosed_text-closed body =
    ap (λ text. codes "{\"body\":[" ++ (text ++ codes "}")) (items_text-entries false body)
    ∙ ap (λ text. codes "{\"body\":[" ++ text) (append_assoc (entries_text false body) (93 ∷ []) (codes "}"))

entries_text-last : (later : Bool) (body : BodyTree Text) (e : EntryTree Text)
    → entries_text later (body ++ e ∷ []) ≡ entries_text later body ++ next_text (later_after later body) e
entries_text-last later [] e = append-nil (next_text later e)
entries_text-last later (x ∷ xs) e =
    ap (λ text. next_text later x ++ text) (entries_text-last true xs e)
    ∙ sym (append_assoc (next_text later x) (entries_text true xs) (next_text (later_after true xs) e))

later_after-last : (later : Bool) (body : BodyTree Text) (e : EntryTree Text) →
    later_after later (body ++ e ∷ []) ≡ true
later_after-last later [] e = refl
later_after-last later (x ∷ xs) e = later_after-last true xs e

-- the text of an entry after others
unclosed_text-last : (body : BodyTree Text) (e : EntryTree Text) (later : Bool) → later ≡ later_after false body
    → unclosed_text (body ++ e ∷ []) ≡ unclosed_text body ++ next_text later e
unclosed_text-last body e later is =
    ap (λ text. codes "{\"body\":[" ++ text) (entries_text-last false body e)
    ∙ ap (λ l. unclosed_text body ++ next_text l e) (sym is)

-- ---- what became of the entries

module _ {W : Type 0} {text : W → List ℕ} {room : W → ℕ} where
  -- the entry that comes next, by what a writer has done with its text
  pub HasWritten-entry : {T : Type 0} {start : W} {body : BodyTree Text} {old : BodyWriter W} {a b : TextWriter T W}
      (e : EntryTree Text) (refused : Bool) → HasWritten text room start body old → old.refused ≡ false
      → Appends text room a b (next_text old.later e) → a.sink.now ≡ old.sink → a.refused ≡ false
      → refused ≡ b.refused
      → HasWritten text room start (body ++ e ∷ []) (record { sink = b.sink.now; later = true; refused = refused })
  HasWritten-entry {T} {start} {body} {old} {a} {b} e refused (whole on took later_is) on_now h at_sink not_yet is =
      next h.outcome
    where
      bytes : Text
      bytes = next_text old.later e

      all : unclosed_text body ++ bytes ≡ unclosed_text (body ++ e ∷ [])
      all = sym (unclosed_text-last body e old.later later_is)

      next : Outcome text room a b bytes → HasWritten text room start (body ++ e ∷ [])
          (record { sink = b.sink.now; later = true; refused = refused })
      next (appended was now more last) =
          let rest = subst (λ w. Takes text room w b.sink.now bytes) at_sink more in
          let taken = subst (λ bs. Takes text room start b.sink.now bs) all (Takes-append text room took rest) in
          whole (is ∙ now) taken (sym (later_after-last false body e))
      next (stopped was now more) =
          let rest = subst (λ w. TakesBeginning text room w b.sink.now bytes) at_sink more in
          let taken = TakesBeginning-after text room took rest in
          beginning (is ∙ now) (subst (λ bs. TakesBeginning text room start b.sink.now bs) all taken)
      next (silent was now same) = cc
  HasWritten-entry e refused (beginning off began) on h at_sink not_yet is = cc

  -- an entry that comes after a refusal
  pub HasWritten-silent : {start : W} {body : BodyTree Text} {now : BodyWriter W} (e : EntryTree Text)
      → HasWritten text room start body now → now.refused ≡ true → HasWritten text room start (body ++ e ∷ []) now
  HasWritten-silent e (whole on took later_is) off = cc
  HasWritten-silent {start} {body} {now} e (beginning off' began) off =
      let more = next_text (later_after false body) e in
      let all = sym (unclosed_text-last body e (later_after false body) refl) in
      let taken = TakesBeginning-before text room more began in
      beginning off (subst (λ bs. TakesBeginning text room start now.sink bs) all taken)

  -- the text of all entries, where the sink took the brackets that close it
  pub HasWritten-closed : {start end : W} {body : BodyTree Text} {now : BodyWriter W}
      → HasWritten text room start body now → now.refused ≡ false → Takes text room now.sink end (codes "]}")
      → Takes text room start end (compact_text (body_form body))
  HasWritten-closed {start} {end} {body} (whole on took later_is) not_yet closed =
      subst (λ bs. Takes text room start end bs) (sym (unclosed_text-closed body)) (Takes-append text room took closed)
  HasWritten-closed (beginning off began) not_yet closed = cc

  -- a beginning of it, where it refused them
  pub HasWritten-unclosed : {start end : W} {body : BodyTree Text} {now : BodyWriter W}
      → HasWritten text room start body now → now.refused ≡ false → Refuses text room now.sink end (codes "]}")
      → TakesBeginning text room start end (compact_text (body_form body))
  HasWritten-unclosed {start} {end} {body} (whole on took later_is) not_yet refuses =
      let rest = TakesBeginning-refused text room refuses in
      subst (λ bs. TakesBeginning text room start end bs) (sym (unclosed_text-closed body))
      (TakesBeginning-after text room took rest)
  HasWritten-unclosed (beginning off began) not_yet refuses = cc

  -- or where it had refused a piece before
  pub HasWritten-stopped : {start : W} {body : BodyTree Text} {now : BodyWriter W} → HasWritten text room start body now
      → now.refused ≡ true → TakesBeginning text room start now.sink (compact_text (body_form body))
  HasWritten-stopped (whole on took later_is) off = cc
  HasWritten-stopped {start} {body} {now} (beginning off' began) off =
      subst (λ bs. TakesBeginning text room start now.sink bs) (sym (unclosed_text-closed body))
      (TakesBeginning-before text room (codes "]}") began)
