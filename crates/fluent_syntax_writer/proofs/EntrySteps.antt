-- Entries after entries.
use Rattle.std.proofs.Common.{◌≡◌, ℕ, List, [], ◌∷◌, ◌++◌, Option, None, Bool, false, not}
use Rattle.std.proofs.Common.{refl, sym, ap, ◌∙◌, subst, append_assoc, append-nil}
use Rattle.fluent_syntax_tree.specs.Entry.{BodyTree, EntryTree}
use Rattle.fluent_syntax_grammar.specs.Written.{Text, is_junk, last_of, text_after, entry_marks, body_marks, written}
use Rattle.fluent_syntax_writer.specs.EntryWriting.{follows_after, HasWritten, whole, beginning}
use Rattle.fluent_syntax_grammar.specs.Sink.{Takes, TakesBeginning}
use Rattle.fluent_syntax_grammar.specs.Writing.{Outcome, appended, stopped, silent, Writes}
use Rattle.fluent_syntax_grammar.proofs.Bytes.{last_of-append}
use Rattle.fluent_syntax_grammar.proofs.MarksWritten.{text_after-append}
use Rattle.fluent_syntax_grammar.proofs.Sinks.{Takes-none, Takes-append, TakesBeginning-after, TakesBeginning-before}
use Rattle.fluent_syntax_writer.specs.declared.serializer.entry_writer.EntryWriter.{EntryWriter}
use Rattle.fluent_syntax_writer.specs.declared.serializer.Options.{Options}
use Rattle.fluent_syntax_grammar.specs.declared.text_writer.TextWriter.{TextWriter}

body_marks-last : (with_junk follows : Bool) (body : BodyTree Text) (e : EntryTree Text)
    → body_marks with_junk follows (body ++ e ∷ [])
    ≡ body_marks with_junk follows body ++ entry_marks with_junk (follows_after follows body) e
body_marks-last with_junk follows [] e = append-nil (entry_marks with_junk follows e)
body_marks-last with_junk follows (x ∷ xs) e =
    let first = entry_marks with_junk follows x in
    let rest = body_marks with_junk (not (is_junk x)) xs in
    ap (λ ms. first ++ ms) (body_marks-last with_junk (not (is_junk x)) xs e)
    ∙ sym (append_assoc first rest (entry_marks with_junk (follows_after (not (is_junk x)) xs) e))

follows_after-last : (follows : Bool) (body : BodyTree Text) (e : EntryTree Text)
    → follows_after follows (body ++ e ∷ []) ≡ not (is_junk e)
follows_after-last follows [] e = refl
follows_after-last follows (x ∷ xs) e = follows_after-last (not (is_junk x)) xs e

-- the text of an entry after others, by the state between them
written-last : (with_junk : Bool) (body : BodyTree Text) (e : EntryTree Text) (last : Option ℕ) (follows : Bool)
    → last ≡ last_of None (written with_junk body) → follows ≡ follows_after false body
    → written with_junk (body ++ e ∷ []) ≡ written with_junk body ++ text_after last (entry_marks with_junk follows e)
unfolding written
written-last with_junk body e last follows last_is follows_is =
    let marks = body_marks with_junk false body in
    ap (text_after None) (body_marks-last with_junk false body e)
    ∙ text_after-append None marks (entry_marks with_junk (follows_after false body) e)
    ∙ ap (λ l. text_after None marks ++ text_after l (entry_marks with_junk (follows_after false body) e)) (sym last_is)
    ∙ ap (λ f. text_after None marks ++ text_after last (entry_marks with_junk f e)) (sym follows_is)

module _ {T W : Type 0} {text : W → List ℕ} {room : W → ℕ} where
  entry_after_written_is_written : {start : W} {body : BodyTree Text} {old : EntryWriter W} {a b : TextWriter T W}
      (e : EntryTree Text)
      (follows refused : Bool) → HasWritten text room start body old
      → Outcome text room a b (text_after a.last (entry_marks old.options.with_junk old.follows e))
      → a.sink.now ≡ old.sink → a.last ≡ old.last → a.refused ≡ old.refused → refused ≡ b.refused
      → follows ≡ not (is_junk e) → HasWritten text room start (body ++ e ∷ []) (record {
        sink = b.sink.now;
        options = old.options;
        last = b.last;
        follows = follows;
        refused = refused;
      })
  entry_after_written_is_written {start} {body} {old} {a} {b} e follows refused (whole on took last_is follows_is)
      (appended was now more last_now) at_sink at_last was_refused is_refused is =
      let with_junk = old.options.with_junk in
      let bytes = text_after a.last (entry_marks with_junk old.follows e) in
      let all = written-last with_junk body e a.last old.follows (at_last ∙ last_is) follows_is in
      let rest = subst (λ w. Takes text room w b.sink.now bytes) at_sink more in
      let taken = subst (λ bs. Takes text room start b.sink.now bs) (sym all) (Takes-append text room took rest) in
      let joined = sym (last_of-append None (written with_junk body) bytes) ∙ ap (last_of None) (sym all) in
      whole (is_refused ∙ now) taken (last_now ∙ ap (λ l. last_of l bytes) (at_last ∙ last_is) ∙ joined)
      (is ∙ sym (follows_after-last false body e))
  entry_after_written_is_written {start} {body} {old} {a} {b} e follows refused (whole on took last_is follows_is)
      (stopped was now more)
      at_sink at_last was_refused is_refused is =
      let with_junk = old.options.with_junk in
      let bytes = text_after a.last (entry_marks with_junk old.follows e) in
      let all = written-last with_junk body e a.last old.follows (at_last ∙ last_is) follows_is in
      let rest = subst (λ w. TakesBeginning text room w b.sink.now bytes) at_sink more in
      let taken = TakesBeginning-after text room took rest in
      beginning (is_refused ∙ now) (subst (λ bs. TakesBeginning text room start b.sink.now bs) (sym all) taken)
  entry_after_written_is_written e follows refused (whole on took last_is follows_is) (silent was now same) at_sink
      at_last was_refused
      is_refused is =
      cc
  entry_after_written_is_written e follows refused (beginning off began) (appended was now more last_now) at_sink
      at_last was_refused
      is_refused is =
      cc
  entry_after_written_is_written e follows refused (beginning off began) (stopped was now more) at_sink at_last
      was_refused is_refused is = cc
  entry_after_written_is_written {start} {body} {old} {a} {b} e follows refused (beginning off began)
      (silent was now same) at_sink at_last
      was_refused is_refused is =
      let with_junk = old.options.with_junk in
      let last = last_of None (written with_junk body) in
      let bytes = text_after last (entry_marks with_junk (follows_after false body) e) in
      let all = written-last with_junk body e last (follows_after false body) refl refl in
      let here = subst (λ w. TakesBeginning text room start w (written with_junk body)) (sym (same ∙ at_sink)) began in
      let taken = TakesBeginning-before text room bytes here in
      beginning (is_refused ∙ now) (subst (λ bs. TakesBeginning text room start b.sink.now bs) (sym all) taken)

  -- the entry that comes next, by what a writer that was resumed has done with its marks
  pub HasWritten-next : {start : W} {body : BodyTree Text} {old : EntryWriter W} {a b : TextWriter T W}
      (e : EntryTree Text) (follows refused : Bool) → HasWritten text room start body old
      → Writes text room a b (entry_marks old.options.with_junk old.follows e)
      → a.sink.now ≡ old.sink → a.last ≡ old.last → a.refused ≡ old.refused → refused ≡ b.refused
      → follows ≡ not (is_junk e) → HasWritten text room start (body ++ e ∷ []) (record {
        sink = b.sink.now;
        options = old.options;
        last = b.last;
        follows = follows;
        refused = refused;
      })
  HasWritten-next e follows refused h k = entry_after_written_is_written e follows refused h k.text_appended.outcome

pub HasWritten-none : {W : Type 0} (text : W → List ℕ) (room : W → ℕ) (sink : W) (options : Options)
    → HasWritten text room sink [] (record {
      sink = sink;
      options = options;
      last = None;
      follows = false;
      refused = false;
    })
unfolding written
HasWritten-none text room sink options = whole refl (Takes-none text room sink) refl refl
