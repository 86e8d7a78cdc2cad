-- A text put into a sink. Assumes nothing.
use Rattle.std.specs.Prelude.{◌≡◌, ℕ, ◌+◌, ◌<◌, List, [], ◌++◌, length, OnErr, OnOk, Result}
use Rattle.writing.specs.declared.fault.SaveFault.{SaveFault}

module _ {S : Type 0} (room : S → ℕ) (puts : S → List ℕ → S → Type 0) (keeps : S → S → Type 0) where
  -- what putting a text answers, and what it does to the sink
  pub record Put (before : S) (text : List ℕ) (r : Result (Unit {0}) SaveFault) (after : S) : Type 0 where
    -- where it is put, the sink has taken all of it
    pub put : OnOk r (puts before text after)
    -- it is refused only where there is no room for the whole of it
    pub full : OnErr r (room before < length text)
    -- what was put before stays
    pub kept : keeps before after

  -- texts are put one after the other, each into the room that the others left
  pub record SinkLaws : Type 0 where
    pub left : (s t : S) (text : List ℕ) → puts s text t → room t + length text ≡ room s
    pub joins : (s t u : S) (text more : List ℕ) → puts s text t → puts t more u → puts s (text ++ more) u
    pub nothing : (s : S) → puts s [] s
    pub same : (s : S) → keeps s s
    pub on : (s t u : S) → keeps s t → keeps t u → keeps s u
