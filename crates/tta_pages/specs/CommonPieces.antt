-- The pieces of the fixed text of what pages share.
use Rattle.std.specs.Prelude.{ℕ, List, codes}

-- the style that pages share: letters that scale with the window, tints for blocks, and no red beside green
unfoldable pub style_text : List ℕ
style_text =
    codes "*{box-sizing:border-box}\nbody{font-family:ui-monospace,Menlo,Consolas,'DejaVu Sans Mono',monospace;color:#16202c;background:#fff;margin:0;line-height:1.35}\nh1{font-size:1.15rem;margin:0 1rem 0 0;display:inline}\nh2{font-size:.95rem;margin:0 0 .2rem;color:#43505e;font-weight:600}\nheader{padding:.4rem .8rem;background:#e9eef4;border-bottom:2px solid #43505e}\nheader>*{margin-right:.6rem;vertical-align:middle}\nfooter{padding:.3rem .8rem;background:#e9eef4;border-top:2px solid #43505e}\nbutton,input,select{font:inherit;color:inherit}\nbutton{border:1px solid #43505e;border-radius:.3rem;background:#fff;padding:.1rem .6rem}\nkbd{border:1px solid #43505e;border-radius:.25rem;background:#fff;padding:0 .3rem}\ntable{border-collapse:collapse}\ntd,th{text-align:left;vertical-align:top;padding:.05rem .5rem;white-space:pre}\nth{color:#43505e;font-weight:600}\n"

-- the style of blocks, of what is left out, and of what is marked
unfoldable pub tints_text : List ℕ
tints_text =
    codes ".tint0{background:#d6ecfa}.tint1{background:#fde6c4}.tint2{background:#f1dcec}\n.tint3{background:#fbf5bd}.tint4{background:#dcdff7}.tint5{background:#ebe3d0}\n.gone{text-decoration:line-through;color:#5b6673}\n.why{color:#43505e;font-style:italic;text-decoration:none}\n.dim{color:#66727f}\n.line{box-shadow:inset .2rem 0 #1d4ed8;background:#fff;font-weight:700}\n.item{background:#1d4ed8;color:#fff}.item .why{color:#fff}\n.result{outline:.15rem dashed #b45309;outline-offset:-.1rem}\n.bar{position:absolute;top:.1rem;bottom:.1rem;padding:0 .3rem;overflow:hidden;border-left:.2rem solid #43505e}\n"

-- the script of the size of letters, which follows the window, and of keys, which leaves those with Ctrl, Alt or Meta to the browser
unfoldable pub fit_text : List ℕ
fit_text =
    codes "let size=1;\nfunction fit(){document.documentElement.style.fontSize=size*Math.max(12,Math.min(innerWidth/88,innerHeight/42))+'px';}\nfunction resize(by){size=Math.max(.4,Math.min(4,size*by));fit();}\nfunction onKeys(keys){\ndocument.onkeydown=event=>{\nif(event.ctrlKey||event.altKey||event.metaKey||!keys[event.key])return;\nif(event.target.tagName=='INPUT'&&(event.target.type!='range'||event.key.length>1))return;\nkeys[event.key]();\nevent.preventDefault();\n};\n}\nwindow.onresize=fit;\nfit();\n"

-- the end of the data, and where the script begins
unfoldable pub open_script_text : List ℕ
open_script_text =
    codes "</script>\n<script>\n"

-- the end of a page
unfoldable pub end_text : List ℕ
end_text =
    codes "</script>\n</body>\n</html>\n"

-- the script that finds elements, and takes the text of stages apart into headings with their lines, and the lines of C beside these
unfoldable pub parts_text : List ℕ
parts_text =
    codes "const newline=String.fromCharCode(10);\nconst find=id=>document.getElementById(id);\nfunction make(kind,look,...inner){\nconst element=document.createElement(kind);\nelement.className=look;\nelement.append(...inner);\nreturn element;\n}\nfunction partsOf(text){\nconst parts=[];\nfor(const told of text.split(newline)){\nconst [line,place]=told.split(/ {2}; /),part=parts[parts.length-1];\nif(line[0]==' ')part.places[part.lines.push(line.slice(1))-1]=place||'';\nelse if(line)parts.push({words:line.split(' '),lines:[],places:[]});\n}\nreturn parts;\n}\nconst listed=line=>line.split(':')[1].trim().split(' ').filter(word=>word);\nfunction originOf(words){\nconst kind=words[2],size={steps:6,entry:3,return:5}[kind],own=words.slice(2,2+size);\nreturn {name:words[1],kind,proc:own[2],first:+own[4]||0,last:+own[5]||+own[4]||0,origin:own.join(' '),rest:words.slice(2+size)};\n}\n"

-- the script that reads the parts: basic blocks, variables, register code, lists of moves, and the code
unfoldable pub stages_text : List ℕ
stages_text =
    codes "const readers={\nblock:(all,w,lines,places)=>all.blocks.push({proc:w[3],first:+w[8],last:+w[9],before:listed(lines[0]),after:listed(lines[lines.length-1]),\nsteps:lines.slice(1,-1).map(line=>/^line ([0-9]+) : (.*)$/.exec(line)).map((m,k)=>({line:+m[1],text:m[2],place:places[k+1]}))}),\nvariables:(all,w,lines)=>lines.forEach(line=>{\nconst [name,home,...span]=line.split(' '),at=[...line.matchAll(/entry|line ([0-9]+)/g)].map(m=>+m[1]||0);\nall.variables.push({proc:w[2],name,home,first:at[0],last:at[1],span:span.join(' ')});\n}),\n"

-- the script that reads register code, lists of moves, and the code, and then the whole text
unfoldable pub code_readers_text : List ℕ
code_readers_text =
    codes "code:(all,w,lines)=>{\nconst origin=originOf(w),block={...origin,address:+origin.rest[1],cycles:+origin.rest[3],steps:lines.slice(0,-2),exit:lines[lines.length-2],\nlive:listed(lines[lines.length-1]),lists:[],rows:[]};\nall.code.push(block);\nall.named.set(block.name,block);\n},\nlist:(all,w,lines)=>{\nconst list=originOf(w),items=lines.filter(line=>!line.startsWith('live after'));\nall.named.get(list.name).lists.push({what:list.rest.slice(0,-2).join(' '),items});\n},\nplaced:(all,w,lines)=>{\nall.named.get(w[1]).rows=lines.map(line=>/^([0-9]+) : (.*) ;$/.exec(line)).map(m=>({address:+m[1],text:m[2]}));\n}};\nfunction stagesOf(text){\nconst all={pair:'',blocks:[],variables:[],code:[],named:new Map()};\nfor(const part of partsOf(text))if(readers[part.words[0]])readers[part.words[0]](all,part.words,part.lines,part.places);else all.pair=part.words[1];\nall.code.forEach((block,k)=>block.tint='tint'+k%6);\nreturn all;\n}\n"

-- the script that follows moves through the passes: which are changed, and which are left out and by what
unfoldable pub follow_text : List ℕ
follow_text =
    codes "const targetOf=text=>text.split(' -> ')[1];\nfunction comesFrom(before,after,what){\nconst free=before.map(()=>true),whole=before.length==after.length&&/bypass|bound/.test(what),cut=/share|dead/.test(what);\nlet next=0;\nreturn after.map((text,at)=>{\nif(whole)return at;\nconst can=k=>free[k]&&(!cut||k>=next);\nlet from=before.findIndex((old,k)=>can(k)&&old==text);\nif(from<0)from=before.findIndex((old,k)=>can(k)&&targetOf(old)==targetOf(text));\nif(from>=0){free[from]=false;next=from+1;}\nreturn from;\n});\n}\n"

-- the script that follows the moves of a block from its first list to its last
unfoldable pub passes_text : List ℕ
passes_text =
    codes "function followed(lists){\nconst items=lists[0].items.map(text=>({text,now:text,was:[],gone:''}));\nlet last=items.slice(),before=lists[0].items;\nfor(const list of lists.slice(1)){\nconst from=comesFrom(before,list.items,list.what),kept=new Set(from),old=last;\nlast=[];\nlist.items.forEach((text,k)=>{\nconst item=from[k]<0?{text:'',now:'',was:[],gone:'',near:last[k-1]}:old[from[k]];\nif(from[k]<0)items.splice(items.indexOf(item.near)+1,0,item);\nif(item.now!=text){item.now=text;item.was.push([list.what,text]);}\nlast.push(item);\n});\nold.forEach((item,k)=>{if(!kept.has(k))item.gone=list.what;});\nbefore=list.items;\n}\nreturn {items,last};\n}\n"
