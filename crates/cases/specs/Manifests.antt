-- The manifests of the worked cases.
use Rattle.std.specs.Prelude.{ℕ, List, codes}

-- two S elements, the first repeated once, with a gap before the second; offset 5, a Period of 5 s at ten ticks a second
abbrev pub sample : List ℕ
sample = codes "<MPD mediaPresentationDuration=\"PT5S\" maxSegmentDuration=\"PT2S\"><BaseURL>http://h/</BaseURL><Period><AdaptationSet><SegmentTemplate timescale=\"10\" startNumber=\"5\" presentationTimeOffset=\"5\" media=\"$RepresentationID$/$Time$\"><SegmentTimeline><S t=\"0\" d=\"20\" r=\"1\"/><S t=\"45\" d=\"20\"/></SegmentTimeline></SegmentTemplate><Representation id=\"v1\"/></AdaptationSet></Period></MPD>"

-- a dynamic manifest that says nothing else
abbrev pub dynamic : List ℕ
dynamic = codes "<MPD type=\"dynamic\"><Period/></MPD>"

-- an MPD without a type, with a time shift buffer
abbrev pub untyped : List ℕ
untyped = codes "<MPD timeShiftBufferDepth=\"PT1S\"/>"

-- an audio set without a language, and a template with a duration and a timeline, a broken media and a Number in its initialization
abbrev pub audio : List ℕ
audio = codes "<AdaptationSet contentType=\"audio\"><SegmentTemplate duration=\"1\" media=\"$x\" initialization=\"$Number$\"><SegmentTimeline/></SegmentTemplate></AdaptationSet>"

-- a Period of 10,000 ticks and an S of 3,000 that repeats up to its end
abbrev pub endless : List ℕ
endless = codes "<MPD mediaPresentationDuration=\"PT10S\" maxSegmentDuration=\"PT3S\"><Period><AdaptationSet><SegmentTemplate timescale=\"1000\" media=\"$Number$\"><SegmentTimeline><S d=\"3000\" r=\"-1\"/></SegmentTimeline></SegmentTemplate><Representation/></AdaptationSet></Period></MPD>"

-- an S from 0 to 10 and one that starts at 9, and one that starts at 10
abbrev pub overlapping : List ℕ
overlapping = codes "<MPD mediaPresentationDuration=\"PT20S\" maxSegmentDuration=\"PT10S\"><Period><AdaptationSet><SegmentTemplate media=\"$Number$\"><SegmentTimeline><S t=\"0\" d=\"10\"/><S t=\"9\" d=\"10\"/></SegmentTimeline></SegmentTemplate><Representation/></AdaptationSet></Period></MPD>"

abbrev pub abutting : List ℕ
abutting = codes "<MPD mediaPresentationDuration=\"PT20S\" maxSegmentDuration=\"PT10S\"><Period><AdaptationSet><SegmentTemplate media=\"$Number$\"><SegmentTimeline><S t=\"0\" d=\"10\"/><S t=\"10\" d=\"10\"/></SegmentTimeline></SegmentTemplate><Representation/></AdaptationSet></Period></MPD>"
